use Rattle.std.proofs.Common.{ℕ, List, ◌++◌, ap, ◌∙◌, codes}
use Rattle.flow_texts.specs.Tables.{bit_text}
use Rattle.text_pieces.proofs.buffers.Blocks.{more_texts_held}
use Rattle.flow_texts.proofs.bit_texts.texts_of_bits.Goals as goal

pub loop-bit-preserved : goal.loop-bit-preserved
loop-bit-preserved c =
    let named : ℕ → List ℕ = bit_text c.args.graph.now c.args.analysis in
    more_texts_held (codes ", ") named c.loop-bit.bit c.loop-bit.block c.in_ok-block-2.block c.deref.result.now c.loop-bit.invariant
    (c.deref.ensures.value ∙ c.in_ok-push_bit.ensures ∙ ap (λ t. t ++ named c.loop-bit.bit) c.clear.ensures.items) c.in_ok-block-2.ensures
