use Rattle.flow_graph.proofs.places.PointLemmas.{places_have_points, points_have_places}
use Rattle.graph_laws.proofs.program_laws.points_are_places.Goals as goal

pub returns-clause-places : goal.returns-clause-places
returns-clause-places c = places_have_points

pub returns-clause-points : goal.returns-clause-points
returns-clause-points c = points_have_places
