use Rattle.std.proofs.Common.{◌≡◌, drop}
use Rattle.std.specs.List.{list_any}
use Rattle.lint_texts.specs.LintTexts.{is_told}
use Rattle.lint_texts.proofs.telling.Telling.tells_any.Given as goal

-- none of those so far is told
abbrev pub invariant-loop-placed : goal.invariant-loop-placed
invariant-loop-placed l =
    list_any (is_told l.self l.graph) (drop l.placed-index l.lints) ≡ list_any (is_told l.self l.graph) l.lints
