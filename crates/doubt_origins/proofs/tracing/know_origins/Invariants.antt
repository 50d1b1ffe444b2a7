use Rattle.std.proofs.Common.{◌≡◌, fold, take}
use Rattle.flow_graph.specs.code.Searching.{search_of, with_known}
use Rattle.doubt_origins.specs.code.Tracing.{AddsOrigin, known_in}
use Rattle.doubt_origins.proofs.tracing.know_origins.Given as goal

abbrev pub invariant-loop-point : goal.invariant-loop-point
invariant-loop-point l = record {
  known : search_of (known_in l.origins.items) l.work.items
      ≡ fold with_known (search_of (known_in l.fn.origins.items) l.fn.work.items) (take l.point-index l.points);
  adds : AddsOrigin (take l.point-index l.points) l.origin l.fn.origins.items l.origins.items;
}
