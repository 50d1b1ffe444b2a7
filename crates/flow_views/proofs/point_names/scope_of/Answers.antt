use Rattle.std.proofs.Common.{ap, arith}
use Rattle.flow_graph.specs.declared.place.Place.{Place}
use Rattle.flow_graph.proofs.places.PointLemmas.{points_have_places}
use Rattle.flow_views.proofs.point_names.scope_of.Goals as goal

pub returns-clause-there : goal.returns-clause-there
returns-clause-there c =
    let place = points_have_places c.args.graph.now c.args.point c.requires in
    omega (arith, place.procedure, ap (λ (at : Place). at.procedure) c.place.ensures)
