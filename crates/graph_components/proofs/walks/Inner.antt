-- Nodes that lead to each other do so along arcs of one level
use Rattle.std.proofs.Common.{◌≡◌, ℕ, ◌≤◌, List, [], ◌∷◌, filter, get_or, ap, arith, eq-eqb}
use Rattle.flow_graph.proofs.edges.EdgeLemmas.{All-Contains}
use Rattle.flow_graph.proofs.lists.Membership.{Contains-filter, Contains-in_filter}
use Rattle.graph_components.specs.Components.{AreComponents, IsWalk, Joins, Leads, LeadToEachOther}
use Rattle.graph_components.specs.code.Levels.{AreLevels, is_level}
use Rattle.graph_components.specs.declared.arc.Arc.{Arc}
use Rattle.graph_components.proofs.walks.Walks.{arc_leads, leads_on}

module _ (arcs : List Arc) (levels : List ℕ) (nodes : ℕ) (are : AreLevels arcs nodes levels) where
  inner : List Arc
  inner = filter (is_level levels) arcs

  falls_arc : (x y : ℕ) → Joins arcs x y → get_or levels y 0 ≤ get_or levels x 0
  falls_arc x y joins =
      All-Contains (λ arc. get_or levels arc.to 0 ≤ get_or levels arc.from 0) arcs (record { from = x; to = y }) are.falls joins

  falls : (others : List ℕ) (x y : ℕ) → IsWalk arcs x others y → get_or levels y 0 ≤ get_or levels x 0
  falls [] x y same = let e : get_or levels x 0 ≡ get_or levels y 0 = ap (λ n. get_or levels n 0) same in omega (arith, e)
  falls (n ∷ others) x y (joins, rest) = omega (arith, falls_arc x n joins, falls others n y rest)

  inner_joins : (x y : ℕ) → Joins arcs x y → get_or levels y 0 ≡ get_or levels x 0 → Joins inner x y
  unfolding inner
  inner_joins x y joins level = Contains-filter (is_level levels) arcs (record { from = x; to = y }) joins (eq-eqb (get_or levels y 0) (get_or levels x 0) level)

  outer_joins : (x y : ℕ) → Joins inner x y → Joins arcs x y
  unfolding inner
  outer_joins x y joins = (Contains-in_filter (is_level levels) arcs (record { from = x; to = y }) joins).0

  inner_leads : (others : List ℕ) (x y : ℕ) → IsWalk arcs x others y → Leads arcs y x → Leads inner x y
  inner_leads [] x y same back = ([], same)
  inner_leads (n ∷ others) x y (joins, rest) back =
      let around : Leads arcs n x = leads_on arcs n y x (others, rest) back in
      let down = falls_arc x n joins in
      let up = falls around.0 n x around.1 in
      let level : get_or levels n 0 ≡ get_or levels x 0 = omega (arith, down, up) in
      leads_on inner x n y (arc_leads inner x n (inner_joins x n joins level))
      (inner_leads others n y rest (leads_on arcs y x n back (arc_leads arcs x n joins)))

  outer_leads : (others : List ℕ) (x y : ℕ) → IsWalk inner x others y → Leads arcs x y
  outer_leads [] x y same = ([], same)
  outer_leads (n ∷ others) x y (joins, rest) = leads_on arcs x n y (arc_leads arcs x n (outer_joins x n joins)) (outer_leads others n y rest)

  inner_each_other : (x y : ℕ) → LeadToEachOther arcs x y → LeadToEachOther inner x y
  inner_each_other x y both = record {
    there = inner_leads both.there.0 x y both.there.1 both.back;
    back = inner_leads both.back.0 y x both.back.1 both.there;
  }

  outer_each_other : (x y : ℕ) → LeadToEachOther inner x y → LeadToEachOther arcs x y
  outer_each_other x y both = record {
    there = outer_leads both.there.0 x y both.there.1;
    back = outer_leads both.back.0 y x both.back.1;
  }

  pub whole_components : (numbers : List ℕ) → AreComponents (filter (is_level levels) arcs) nodes numbers → AreComponents arcs nodes numbers
  unfolding inner
  whole_components numbers of_inner = record {
    count = of_inner.count;
    each = λ one other low high. (
      λ same. outer_each_other one other ((of_inner.each one other low high).0 same),
      λ both. (of_inner.each one other low high).1 (inner_each_other one other both),
    );
  }
