use Rattle.std.proofs.Common.{◌≡◌}
use Rattle.flow_kept.specs.code.Asked.{AreInRun}
use Rattle.flow_kept.proofs.asking.run_at.Given as goal

abbrev pub invariant-loop-j : goal.invariant-loop-j
invariant-loop-j l = record {
  until : l.run.until ≡ l.j;
  in_run : AreInRun l.queries l.places l.from l.run;
}
