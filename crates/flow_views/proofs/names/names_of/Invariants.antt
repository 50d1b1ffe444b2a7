use Rattle.flow_texts.specs.Tables.{bit_text}
use Rattle.text_pieces.specs.code.Blocks.{HoldsTexts}
use Rattle.flow_views.specs.code.Names.{between, name_in}
use Rattle.flow_views.proofs.names.names_of.Given as goal

abbrev pub invariant-loop-bit : goal.invariant-loop-bit
invariant-loop-bit l = HoldsTexts (between l.fn.form) (λ bit. name_in l.fn.form (bit_text l.fn.graph l.fn.analysis bit)) l.bit l.names
