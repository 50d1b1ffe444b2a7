use Rattle.std.proofs.Common.{◌-◌, flat_map}
use Rattle.std.specs.List.{range_with_len}
use Rattle.text_pieces.specs.Pieces.{Writes}
use Rattle.flow_views.proofs.view_program.ViewProgram.write_points.Given as goal

abbrev pub invariant-loop-point : goal.invariant-loop-point
invariant-loop-point g l =
    Writes g.K.Sink l.fn.out l.out
    (flat_map (g.F.PointForm.text l.form l.self) (range_with_len l.initial.point (l.point - l.initial.point)))
