use Rattle.std.proofs.Common.{◌≡◌, map, take}
use Rattle.flow_paths.specs.code.Arounds.{remarks_in}
use Rattle.flow_paths.proofs.arounds.points_of.Given as goal

abbrev pub invariant-loop-around : goal.invariant-loop-around
invariant-loop-around l = l.points.items ≡ map (λ placed. placed.point) (remarks_in (take l.around-index l.arounds))
