use Rattle.std.proofs.Common.{◌≡◌, map, slice_index}
use Rattle.std.specs.Prelude.{All}
use Rattle.flow_paths.specs.code.UnsetPaths.{IsWitnessed, between, use_at, uses_in}
use Rattle.flow_paths.proofs.unset_paths.paths_by_variable.Given as goal

abbrev pub invariant-loop-variable : goal.invariant-loop-variable
invariant-loop-variable l =
    (uses_in l.paths.items ≡ map (use_at l.uses)
    (between l.by_variable.places.items (slice_index l.by_variable.starts.items 0) (slice_index l.by_variable.starts.items l.variable)))
    × All (IsWitnessed l.reaching.problem.now.program) l.paths.items
