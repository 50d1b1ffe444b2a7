use Rattle.std.proofs.Common.{◌≡◌, ◌++◌, flat_map, take}
use Rattle.lint_json.specs.LintJson.{turn_line}
use Rattle.lint_json.proofs.notes.push_turns.Given as goal

abbrev pub invariant-loop-turn : goal.invariant-loop-turn
invariant-loop-turn l =
    l.text.items ≡ l.fn.text.items ++ flat_map (turn_line l.name l.lines.file.text.now l.lines.graph.now) (take l.turn-index l.turns)
