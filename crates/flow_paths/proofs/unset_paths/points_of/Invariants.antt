use Rattle.std.proofs.Common.{◌≡◌, map, take}
use Rattle.flow_paths.specs.code.UnsetPaths.{uses_in}
use Rattle.flow_paths.proofs.unset_paths.points_of.Given as goal

abbrev pub invariant-loop-path : goal.invariant-loop-path
invariant-loop-path l = l.points.items ≡ map (λ one. one.point) (uses_in (take l.path-index l.paths))
