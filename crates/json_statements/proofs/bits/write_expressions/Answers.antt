use Rattle.std.proofs.Common.{◌<◌, codes, length, arith, sym}
use Rattle.std.proofs.lemmas.Option.{get_or_from_slice_get}
use Rattle.text_pieces.proofs.sinks.Taking.{takes_as, takes_then}
use Rattle.flow_graph.specs.Universes.{expressions}
use Rattle.json_statements.specs.Parts.{expression_object}
use Rattle.flow_views.proofs.texts.Rows.{joined_all, joined_behind}
use Rattle.json_statements.proofs.bits.write_expressions.Goals as goal

pub loop-bit-preserved : goal.loop-bit-preserved
loop-bit-preserved g c =
    let below : c.loop-bit.bit < length (expressions c.args.graph.now) = omega (arith, c.loop-bit-test.true, c.bits-bit-end.ensures.count) in
    takes_as _ _ _ _
    (takes_then _ _ _ _ _ (takes_then _ _ _ _ _ c.loop-bit.invariant c.write_if.ensures) c.write_expression.ensures)
    (joined_behind (codes "[") (codes ",") expression_object (expressions c.args.graph.now) c.loop-bit.bit _ below
    (sym (get_or_from_slice_get (expressions c.args.graph.now) c.loop-bit.bit _ _ c.expression.ensures)))

pub returns : goal.returns
returns g c =
    takes_as _ _ _ _ (takes_then _ _ _ _ _ c.loop-bit.invariant c.write-2.ensures)
    (joined_all (codes ",") expression_object (expressions c.args.graph.now) c.loop-bit.bit
    (omega (arith, c.loop-bit-test.false, c.loop-bit.auto.bit-end, c.bits-bit-end.ensures.count)))
