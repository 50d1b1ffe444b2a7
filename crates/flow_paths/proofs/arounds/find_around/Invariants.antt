use Rattle.std.proofs.Common.{◌≡◌, ◌+◌, slice_index}
use Rattle.flow_paths.specs.code.Arounds.{around_at, kept_among}
use Rattle.flow_paths.specs.code.UnsetPaths.{between}
use Rattle.flow_paths.proofs.arounds.find_around.Given as goal

abbrev pub invariant-loop-place : goal.invariant-loop-place
invariant-loop-place l =
    around_at (record { arounds = l.arounds; starts = l.starts; places = l.places }) l.point l.remark
    ≡ kept_among l.arounds (between l.places l.place (slice_index l.starts (l.point + 1))) l.remark
