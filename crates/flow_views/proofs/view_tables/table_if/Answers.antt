use Rattle.flow_views.proofs.facts.Tables.{named_there}
use Rattle.flow_views.proofs.view_tables.table_if.Goals as goal

pub shown_points-points-requires : goal.shown_points-points-requires
shown_points-points-requires g c = named_there c.args.graph.now c.points.ensures.sound c.args.view.procedure c.requires
