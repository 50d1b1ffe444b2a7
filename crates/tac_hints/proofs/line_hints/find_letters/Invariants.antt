use Rattle.std.proofs.Common.{◌≡◌, drop, find}
use Rattle.tac_lines.specs.code.Views.{keyword_text}
use Rattle.tac_lines.specs.declared.token.Keyword.{Keyword}
use Rattle.tac_faults.specs.Hints.Near.{is_same_but_for_capitals}
use Rattle.tac_hints.proofs.line_hints.find_letters.Given as goal

-- It is none of those so far.
abbrev pub invariant-loop-keyword : goal.invariant-loop-keyword
invariant-loop-keyword l = find (λ (k : Keyword). is_same_but_for_capitals l.name (keyword_text k)) (drop l.keyword-index l.keywords)
    ≡ find (λ (k : Keyword). is_same_but_for_capitals l.name (keyword_text k)) l.keywords
