use Rattle.std.proofs.Common.{◌≡◌, ◌++◌, map}
use Rattle.std.specs.Prelude.{All}
use Rattle.flow_paths.specs.code.UnsetPaths.{IsWitnessed, between, use_at, uses_in}
use Rattle.flow_paths.proofs.unset_paths.put_paths.Given as goal

abbrev pub invariant-loop-place : goal.invariant-loop-place
invariant-loop-place l =
    (uses_in l.paths.items ≡ uses_in l.initial.paths.items ++ map (use_at l.uses) (between l.by_variable.places.items l.initial.place l.place))
    × (All (IsWitnessed l.why.form.program) l.initial.paths.items → All (IsWitnessed l.why.form.program) l.paths.items)
