use Rattle.std.proofs.Common.{◌<◌, ◌≤◌, ◌+◌, length}
use Rattle.flow_why.specs.code.Found.{point_at}
use Rattle.flow_why.specs.code.Trails.{LeadOn, trail_of}
use Rattle.flow_why.proofs.trail.follow.Given as goal

abbrev pub invariant-back : goal.invariant-back
invariant-back l = record {
  within : l.at < length l.marks.found;
  leads : LeadOn (trail_of l.frame l.based l.claim) (point_at l.marks.found l.place) (trail_of l.frame l.based l.claim).question.value l.fn.hops.items
      (point_at l.marks.found l.at) (trail_of l.frame l.based l.claim).question.value l.hops.items;
  count : length l.hops.items + l.at ≤ length l.fn.hops.items + l.place;
}

abbrev pub decreases-back : goal.decreases-back
decreases-back l = l.at
