use Rattle.std.proofs.Common.{◌-◌, flat_map}
use Rattle.std.specs.List.{range_with_len}
use Rattle.text_pieces.specs.Pieces.{Writes}
use Rattle.flow_views.specs.Views.{points_in}
use Rattle.flow_views.proofs.view_program.ViewProgram.write_all_points.Given as goal

abbrev pub invariant-loop-procedure : goal.invariant-loop-procedure
invariant-loop-procedure g l =
    Writes g.K.Sink l.fn.out l.out
    (flat_map (g.F.PointForm.text l.form l.self)
    (flat_map (points_in l.self.found.graph.now) (range_with_len l.initial.procedure (l.procedure - l.initial.procedure))))
