use Rattle.std.proofs.lemmas.List.{get_or_default}
use Rattle.lint_json.specs.LintJson.{turn_line}
use Rattle.lint_json.proofs.Elements.{put_more}
use Rattle.lint_json.proofs.notes.push_turns.Goals as goal

pub push_turn-requires-clause-turn : goal.push_turn-requires-clause-turn
push_turn-requires-clause-turn c = c.requires.turns c.loop-turn.turn-index _ c.loop-turn-test.true

pub loop-turn-preserved : goal.loop-turn-preserved
loop-turn-preserved c =
    let lines = c.args.lines.now in
    put_more c.args.turns.now c.loop-turn.turn-index (turn_line c.args.name.now lines.file.text.now lines.graph.now) _ c.args.text.now.items
    c.loop-turn.text.items _ c.loop-turn-test.true (get_or_default c.args.turns.now c.loop-turn.turn-index _ _ c.loop-turn-test.true) c.loop-turn.invariant
    c.in_ok-push_turn.ensures
