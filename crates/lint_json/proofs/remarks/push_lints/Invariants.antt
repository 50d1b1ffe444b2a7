use Rattle.std.proofs.Common.{◌≡◌, ◌++◌, flat_map, take}
use Rattle.lint_json.specs.LintJson.{told_lines}
use Rattle.lint_texts.specs.code.Lines.{known_in}
use Rattle.lint_json.proofs.remarks.push_lints.Given as goal

abbrev pub invariant-loop-placed : goal.invariant-loop-placed
invariant-loop-placed l =
    l.text.items
    ≡ l.fn.text.items
    ++ flat_map (told_lines l.name l.lines.file.text.now l.lines.telling l.lines.graph.now (known_in l.lines)) (take l.placed-index l.lints)
