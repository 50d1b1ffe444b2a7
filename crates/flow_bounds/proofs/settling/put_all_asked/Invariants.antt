use Rattle.std.proofs.Common.{◌≡◌, length}
use Rattle.flow_regions.specs.code.Regions.{StaysIn}
use Rattle.flow_bounds.proofs.settling.put_all_asked.Given as goal

abbrev pub invariant-loop-column : goal.invariant-loop-column
invariant-loop-column l = record {
  count : length l.inside ≡ length l.fn.inside;
  kept : StaysIn l.fn.inside l.inside;
}
