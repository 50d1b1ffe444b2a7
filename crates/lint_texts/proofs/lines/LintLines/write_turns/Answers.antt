use Rattle.std.proofs.lemmas.List.{get_or_default}
use Rattle.lint_texts.specs.LintTexts.{file_text, turn_lines}
use Rattle.lint_texts.proofs.Texts.{text_more}
use Rattle.text_pieces.proofs.sinks.Taking.{takes_as, takes_nothing, takes_then}
use Rattle.lint_texts.proofs.lines.LintLines.write_turns.Goals as goal

pub loop-turn-init : goal.loop-turn-init
loop-turn-init g c = takes_nothing _

pub write_turn-requires-clause-turn : goal.write_turn-requires-clause-turn
write_turn-requires-clause-turn g c = c.requires.turns c.loop-turn.turn-index _ c.loop-turn-test.true

pub loop-turn-preserved : goal.loop-turn-preserved
loop-turn-preserved g c =
    let self = c.args.self.now in
    takes_as _ _ _ _ (takes_then _ _ _ _ _ c.loop-turn.invariant c.write_turn.ensures)
    (text_more c.args.turns.now c.loop-turn.turn-index (turn_lines (file_text self.file) self.telling.style self.graph.now) _ c.loop-turn-test.true
    (get_or_default c.args.turns.now c.loop-turn.turn-index _ _ c.loop-turn-test.true))
