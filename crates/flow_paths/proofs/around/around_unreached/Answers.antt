use Rattle.std.proofs.Common.{◌<◌, sym, subst}
use Rattle.std.specs.Prelude.{IfSome}
use Rattle.flow_graph.specs.Points.{point_count}
use Rattle.tac_program.specs.Programs.{Program}
use Rattle.flow_paths.proofs.lists.Surrounding.{last_there}
use Rattle.flow_paths.proofs.around.around_unreached.Goals as goal

pub edges_behind-requires : goal.edges_behind-requires
edges_behind-requires c =
    subst (λ (program : Program). IfSome c.last_reached-last.result (λ p. p < point_count program)) (sym c.requires.graph)
    (last_there c.args.reasons.now c.args.point c.last_reached-last.result c.requires.point c.last_reached-last.ensures)
