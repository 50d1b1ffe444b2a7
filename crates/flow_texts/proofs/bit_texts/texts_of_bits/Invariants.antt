use Rattle.std.specs.Prelude.{codes}
use Rattle.text_pieces.specs.code.Blocks.{HoldsTexts}
use Rattle.flow_texts.specs.Tables.{bit_text}
use Rattle.flow_texts.proofs.bit_texts.texts_of_bits.Given as goal

abbrev pub invariant-loop-bit : goal.invariant-loop-bit
invariant-loop-bit l = HoldsTexts (codes ", ") (bit_text l.fn.graph l.fn.analysis) l.bit l.block
