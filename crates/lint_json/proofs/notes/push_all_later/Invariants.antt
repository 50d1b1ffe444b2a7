use Rattle.std.proofs.Common.{◌≡◌, ◌++◌, ℕ, List, flat_map}
use Rattle.lint_json.specs.LintJson.{later_line}
use Rattle.lint_texts.specs.LintTexts.{behind_first, uses_told}
use Rattle.lint_texts.specs.code.Uses.{IsFollowed}
use Rattle.lint_json.proofs.notes.push_all_later.Given as goal

abbrev pub invariant-loop-one : goal.invariant-loop-one
invariant-loop-one l =
    (done : List ℕ)
    × IsFollowed l.lines.graph.now l.lines.uses.uses.items
    (behind_first (uses_told l.lines.telling l.lines.graph.now l.lines.linted.now l.variable)) done l.number
    × (l.text.items ≡ l.fn.text.items ++ flat_map (later_line l.name l.lines.file.text.now l.lines.graph.now l.variable) done)

abbrev pub decreases-loop-one : goal.decreases-loop-one
decreases-loop-one l = l.number
