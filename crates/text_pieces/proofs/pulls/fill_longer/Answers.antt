use Rattle.std.proofs.Common.{rules}
use Rattle.std.proofs.KnownBytes.{Consumes-nil}
use Rattle.text_pieces.proofs.pulls.fill_longer.Goals as goal

pub loop-filled-init : goal.loop-filled-init
loop-filled-init g c = record {
  within = search rules;
  some = search rules;
  filled = search rules;
  bytes = c.in-Ok.ensures.bytes _ (Consumes-nil _);
  all = search rules;
  running = search rules;
  faults = search rules;
}

pub returns-else-filled-most-clause-pulled : goal.returns-else-filled-most-clause-pulled
returns-else-filled-most-clause-pulled g c =
    record {
      pulled = c.loop-filled.invariant.bytes;
      all = search rules;
      within = search rules;
    }

pub returns-after-loop-filled-clause-pulled : goal.returns-after-loop-filled-clause-pulled
returns-after-loop-filled-clause-pulled g c =
    record {
      pulled = c.loop-filled.invariant.bytes;
      all = search rules;
      within = search rules;
    }
