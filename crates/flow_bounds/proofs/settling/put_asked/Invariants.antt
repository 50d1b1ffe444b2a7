use Rattle.std.proofs.Common.{◌≡◌, length}
use Rattle.flow_regions.specs.code.Regions.{StaysIn}
use Rattle.flow_bounds.proofs.settling.put_asked.Given as goal

abbrev pub invariant-loop-number : goal.invariant-loop-number
invariant-loop-number l = record {
  count : length l.inside ≡ length l.fn.inside;
  kept : StaysIn l.fn.inside l.inside;
}
