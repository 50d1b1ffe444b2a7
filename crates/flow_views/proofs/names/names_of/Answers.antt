use Rattle.std.proofs.Common.{ℕ, List, ◌<◌, ◌++◌, ap, ◌∙◌, arith}
use Rattle.flow_texts.specs.Tables.{bit_text}
use Rattle.text_pieces.proofs.buffers.Blocks.{more_texts_held}
use Rattle.flow_graph.specs.Universes.{bits}
use Rattle.flow_views.specs.code.Names.{between, name_in}
use Rattle.flow_views.proofs.names.names_of.Goals as goal

pub loop-bit-preserved : goal.loop-bit-preserved
loop-bit-preserved c =
    let form = c.args.form in
    let named : ℕ → List ℕ = λ bit. name_in form (bit_text c.args.graph.now c.args.analysis bit) in
    let below : c.loop-bit.bit < bits c.args.graph.now c.args.analysis = omega (arith, c.loop-bit-test.true, c.bits-bit-end.ensures.count) in
    more_texts_held (between form) named c.loop-bit.bit c.loop-bit.names c.in_ok-names-2.names c.deref.result.now c.loop-bit.invariant
    (c.deref.ensures.value ∙ c.in_ok-push_name.ensures ∙ ap (λ t. t ++ name_in form c.text.result.now) c.clear.ensures.items
    ∙ ap (name_in form) (c.text.ensures ∙ c.in_ok-plain.ensures.texts.each c.loop-bit.bit below))
    c.in_ok-names-2.ensures
