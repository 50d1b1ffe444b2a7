-- Arcs the other way round, and some of the arcs, join nodes as the arcs do
use Rattle.std.proofs.Common.{◌≡◌, ℕ, ◌<◌, Bool, List, filter, map, get_or, sym, subst}
use Rattle.std.proofs.lemmas.List.{get_or_default}
use Rattle.std.proofs.lemmas.List.Elements.{All-map}
use Rattle.flow_graph.proofs.edges.EdgeLemmas.{All-Contains}
use Rattle.flow_graph.proofs.lists.Membership.{Contains-in_filter}
use Rattle.graph_components.specs.code.Targets.{AreWithin, reversed_arc}
use Rattle.graph_components.specs.declared.arc.Arc.{Arc}

pub reversed_within : (nodes : ℕ) (arcs reversed : List Arc) → reversed ≡ map reversed_arc arcs → AreWithin nodes arcs → AreWithin nodes reversed
reversed_within nodes arcs reversed is within =
    subst (AreWithin nodes) (sym is)
    (All-map (λ arc. (arc.from < nodes) × (arc.to < nodes)) reversed_arc arcs (λ k d below. let both = within k d below in (both.1, both.0)))

pub filtered_within : (nodes : ℕ) (test : Arc → Bool) (arcs some : List Arc) → some ≡ filter test arcs → AreWithin nodes arcs → AreWithin nodes some
filtered_within nodes test arcs some is within =
    subst (AreWithin nodes) (sym is)
    (λ k d below.
    All-Contains (λ arc. (arc.from < nodes) × (arc.to < nodes)) arcs (get_or (filter test arcs) k d) within
    ((Contains-in_filter test arcs (get_or (filter test arcs) k d) (k, below, get_or_default (filter test arcs) k _ d below)).0))
