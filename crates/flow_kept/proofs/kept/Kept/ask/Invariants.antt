use Rattle.std.proofs.Common.{◌≡◌, ◌-◌, ◌≤◌, length}
use Rattle.flow_queries.specs.code.Boards.{AreAnswered, queried_in}
use Rattle.flow_kept.proofs.kept.Kept.ask.Given as goal

abbrev pub invariant-runs : goal.invariant-runs
invariant-runs l = record {
  done : l.done ≤ length l.places.items;
  room : length l.answers.items ≡ length l.queries;
  answered : AreAnswered (queried_in l.fn.graph l.queries l.places.items) l.done l.answers.items;
}

abbrev pub decreases-runs : goal.decreases-runs
decreases-runs l = length l.places.items - l.done
