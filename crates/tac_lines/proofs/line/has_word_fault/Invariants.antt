use Rattle.std.proofs.Common.{◌≡◌, drop, flat_map}
use Rattle.tac_lines.specs.LineFaults.{word_fault}
use Rattle.tac_lines.specs.code.Views.{tokens_view}
use Rattle.tac_lines.proofs.line.has_word_fault.Given as goal

-- The faults are the rest's.
abbrev pub invariant-loop-token : goal.invariant-loop-token
invariant-loop-token l = flat_map word_fault (tokens_view l.text (drop l.token-index l.tokens)) ≡ flat_map word_fault (tokens_view l.text l.tokens)
