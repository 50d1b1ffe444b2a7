use Rattle.text_pieces.proofs.sinks.Taking.{takes_as, takes_then}
use Rattle.lint_json.proofs.Elements.{some_more}
use Rattle.lint_json.proofs.notes.MoreTextText.write.Goals as goal

pub returns-then-self-gt0 : goal.returns-then-self-gt0
returns-then-self-gt0 g c =
    takes_as _ _ _ _ (takes_then _ _ _ _ _ (takes_then _ _ _ _ _ (takes_then _ _ _ _ _ c.write_begin.ensures c.write.ensures) c.write_size.ensures) c.write-then-self-gt0.ensures)
    (some_more c.args.self.now.count _ c.if-self-gt0.true)
