use Rattle.std.specs.Prelude.{codes, decimal}
use Rattle.text_pieces.specs.code.Blocks.{HoldsTexts}
use Rattle.flow_views.proofs.names.numbers_below.Given as goal

abbrev pub invariant-loop-number : goal.invariant-loop-number
invariant-loop-number l = HoldsTexts (codes ",") decimal l.number l.numbers
