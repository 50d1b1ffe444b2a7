use Rattle.std.proofs.Common.{◌*◌, false, min}
use Rattle.flow_texts.specs.code.Members.{Wrote, chosen}
use Rattle.flow_texts.specs.code.Runs.{IsRunBefore}
use Rattle.text_pieces.specs.Pieces.{outlet}
use Rattle.flow_texts.proofs.members.write_words.Given as goal

abbrev pub ghost-write_word : goal.ghost-write_word
ghost-write_word g a = g.member

abbrev pub invariant-loop-at : goal.invariant-loop-at
invariant-loop-at g l = record {
  after : IsRunBefore g.member (min l.bits (64 * l.at)) l.run.first l.run.end;
  wrote : Wrote l.fn.texts.between (chosen l.fn.texts.texts g.member) false 0 l.run.first
      (outlet g.K.Sink l.fn.out) (outlet g.K.Sink l.out) l.run.others;
}
