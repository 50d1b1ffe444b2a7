use Rattle.std.proofs.Common.{ap, sym}
use Rattle.text_pieces.proofs.sinks.Taking.{takes_as}
use Rattle.flow_views.specs.Dots.{shown_clusters_of}
use Rattle.dot_texts.proofs.dots.write_shown_clusters.Goals as goal

pub returns-in-Some : goal.returns-in-Some
returns-in-Some g c =
    takes_as _ _ _ _ c.write_cluster.ensures
    (sym (ap (shown_clusters_of (g.F.PointForm.text c.args.form.now c.args.shown.now) c.args.shown.now.found.graph.now) c.in-Some.is))

pub returns-in-None : goal.returns-in-None
returns-in-None g c =
    takes_as _ _ _ _ c.write_all_clusters.ensures
    (sym (ap (shown_clusters_of (g.F.PointForm.text c.args.form.now c.args.shown.now) c.args.shown.now.found.graph.now) c.in-None.is))
