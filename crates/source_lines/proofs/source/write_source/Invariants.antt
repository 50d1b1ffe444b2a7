use Rattle.std.proofs.Common.{◌-◌, length}
use Rattle.source_lines.proofs.lines.Told.{Told}
use Rattle.source_lines.proofs.source.write_source.Given as goal

abbrev pub invariant-loop-start : goal.invariant-loop-start
invariant-loop-start g l = Told g.K.Sink l.text l.fn.out l.out l.number l.start

abbrev pub decreases-loop-start : goal.decreases-loop-start
decreases-loop-start g l = length l.text - l.start
