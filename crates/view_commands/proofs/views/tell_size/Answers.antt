use Rattle.flow_views.proofs.facts.Tables.{named_there}
use Rattle.view_commands.proofs.views.tell_size.Goals as goal

pub shown_points-points-requires : goal.shown_points-points-requires
shown_points-points-requires c = named_there c.args.graph.now c.points.ensures.sound c.args.view.procedure c.requires
