use Rattle.std.proofs.Common.{◌<◌, codes, length, arith, sym}
use Rattle.std.proofs.lemmas.Option.{get_or_from_slice_get}
use Rattle.text_pieces.proofs.sinks.Taking.{takes_as, takes_then}
use Rattle.flow_graph.specs.Universes.{definitions}
use Rattle.json_statements.specs.Parts.{definition_object}
use Rattle.flow_views.proofs.texts.Rows.{joined_all, joined_behind}
use Rattle.json_statements.proofs.bits.write_definitions.Goals as goal

pub loop-bit-preserved : goal.loop-bit-preserved
loop-bit-preserved g c =
    let below : c.loop-bit.bit < length (definitions c.args.graph.now) = omega (arith, c.loop-bit-test.true, c.bits-bit-end.ensures.count) in
    takes_as _ _ _ _
    (takes_then _ _ _ _ _ (takes_then _ _ _ _ _ c.loop-bit.invariant c.write_if.ensures) c.write_definition.ensures)
    (joined_behind (codes "[") (codes ",") definition_object (definitions c.args.graph.now) c.loop-bit.bit _ below
    (sym (get_or_from_slice_get (definitions c.args.graph.now) c.loop-bit.bit _ _ c.definition.ensures.definition)))

pub returns : goal.returns
returns g c =
    takes_as _ _ _ _ (takes_then _ _ _ _ _ c.loop-bit.invariant c.write-2.ensures)
    (joined_all (codes ",") definition_object (definitions c.args.graph.now) c.loop-bit.bit
    (omega (arith, c.loop-bit-test.false, c.loop-bit.auto.bit-end, c.bits-bit-end.ensures.count)))
