use Rattle.std.proofs.Common.{◌≡◌, ◌+◌, slice_index}
use Rattle.flow_paths.specs.code.UnsetPaths.{between, hops_among, hops_at}
use Rattle.flow_paths.proofs.unset_paths.find_hops.Given as goal

abbrev pub invariant-loop-place : goal.invariant-loop-place
invariant-loop-place l =
    hops_at (record { paths = l.paths; starts = l.starts; places = l.places }) l.point l.variable
    ≡ hops_among l.paths (between l.places l.place (slice_index l.starts (l.point + 1))) l.variable
