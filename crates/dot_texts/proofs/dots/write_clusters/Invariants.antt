use Rattle.std.proofs.Common.{◌-◌, flat_map}
use Rattle.std.specs.List.{range_with_len}
use Rattle.text_pieces.specs.Pieces.{Writes}
use Rattle.flow_views.specs.Dots.{cluster_of}
use Rattle.dot_texts.proofs.dots.write_clusters.Given as goal

abbrev pub invariant-loop-procedure : goal.invariant-loop-procedure
invariant-loop-procedure g l =
    Writes g.K.Sink l.fn.out l.out
    (flat_map (cluster_of (g.F.PointForm.text l.fn.form l.fn.shown) l.fn.shown.found.graph.now)
    (range_with_len l.fn.procedures.first (l.procedure - l.fn.procedures.first)))
