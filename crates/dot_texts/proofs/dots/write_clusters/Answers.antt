use Rattle.std.proofs.Common.{◌≡◌, ◌-◌, flat_map, ap, arith}
use Rattle.std.specs.List.{range_with_len}
use Rattle.text_pieces.proofs.sinks.Taking.{takes_as, takes_then}
use Rattle.flow_views.specs.Dots.{cluster_of}
use Rattle.flow_views.proofs.texts.Walks.{walk_more}
use Rattle.dot_texts.proofs.dots.write_clusters.Goals as goal

pub write_cluster-requires-clause-shows : goal.write_cluster-requires-clause-shows
write_cluster-requires-clause-shows g c =
    c.requires.shows c.loop-procedure.procedure (omega (arith, c.loop-procedure.auto.procedure)) (omega (arith, c.loop-procedure.auto.procedure))

pub loop-procedure-preserved : goal.loop-procedure-preserved
loop-procedure-preserved g c = takes_as _ _ _ _ (takes_then _ _ _ _ _ c.loop-procedure.invariant c.write_cluster.ensures)
    (walk_more (cluster_of (g.F.PointForm.text c.args.form.now c.args.shown.now) c.args.shown.now.found.graph.now)
    c.args.procedures.first c.loop-procedure.procedure c.loop-procedure.auto.procedure)

pub returns : goal.returns
returns g c =
    let all : c.loop-procedure.procedure ≡ c.args.procedures.end = omega (arith, c.requires.ordered) in
    takes_as _ _ _ _ c.loop-procedure.invariant
    (ap (λ n. flat_map (cluster_of (g.F.PointForm.text c.args.form.now c.args.shown.now) c.args.shown.now.found.graph.now)
    (range_with_len c.args.procedures.first (n - c.args.procedures.first))) all)
