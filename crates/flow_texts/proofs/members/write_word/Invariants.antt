use Rattle.std.proofs.Common.{◌≡◌, ◌+◌, ◌-◌, ◌<◌, ◌≤◌, true, min}
use Rattle.bit_rows.specs.Words.{has_bit}
use Rattle.flow_texts.specs.code.Members.{Wrote, chosen}
use Rattle.flow_texts.specs.code.Runs.{IsRunBefore}
use Rattle.text_pieces.specs.Pieces.{outlet}
use Rattle.flow_texts.proofs.members.write_word.Given as goal

abbrev pub ghost-with_run : goal.ghost-with_run
ghost-with_run g a = g.member

abbrev pub invariant-loop-place : goal.invariant-loop-place
invariant-loop-place g l = record {
  within : l.place ≤ 64;
  one : l.place < 64 → has_bit l.word l.place ≡ true;
  later : l.fn.run.first ≤ l.last.first;
  after : IsRunBefore g.member (l.first + min l.place l.width) l.last.first l.last.end;
  wrote : Wrote l.fn.texts.between (chosen l.fn.texts.texts g.member) l.fn.run.others l.fn.run.first (l.last.first - l.fn.run.first)
      (outlet g.K.Sink l.fn.out) (outlet g.K.Sink l.out) l.last.others;
}

abbrev pub decreases-loop-place : goal.decreases-loop-place
decreases-loop-place g l = 64 - l.place
