-- What two searches from a node find, along the arcs and against them
use Rattle.std.proofs.Common.{◌≡◌, ◌↔◌, ℕ, ◌<◌, ◌&&◌, true, List, map, nat_eq, get_or, Contains, All, sym, ap, ◌∙◌, subst, arith}
use Rattle.std.specs.List.{list_any}
use Rattle.std.proofs.lemmas.Bool.{and_parts, eqb-true}
use Rattle.std.proofs.lemmas.List.{get_or_default}
use Rattle.flow_graph.proofs.edges.EdgeLemmas.{any_of}
use Rattle.flow_graph.proofs.searches.FiniteSearch.{any_contains}
use Rattle.graph_components.specs.Components.{Leads, LeadToEachOther}
use Rattle.graph_components.specs.code.Marks.{in_both}
use Rattle.graph_components.specs.code.Targets.{AreWithin, reversed_arc}
use Rattle.graph_components.specs.declared.arc.Arc.{Arc}
use Rattle.graph_components.proofs.searches.Reaching.{leads_within}
use Rattle.graph_components.proofs.walks.Walks.{leads_reversed, reversed_leads}

pub both_tell : (arcs : List Arc) (ahead marks : List ℕ) (stamp start node : ℕ) → (Contains ahead node ↔ Leads arcs start node)
    → ((get_or marks node 0 ≡ stamp) ↔ Leads (map reversed_arc arcs) start node)
    → (in_both ahead marks stamp node ≡ true) ↔ LeadToEachOther arcs start node
both_tell arcs ahead marks stamp start node along against = (
  λ is.
      let (listed, marked) = and_parts (list_any (nat_eq node) ahead) (nat_eq (get_or marks node 0) stamp) is in
      let (other, there, same) = any_contains (nat_eq node) ahead listed in
      let here : Contains ahead node = subst (Contains ahead) (sym (eqb-true node other same)) there in
      let back = against.0 (eqb-true (get_or marks node 0) stamp marked) in
      record { there = along.0 here; back = leads_reversed arcs back.0 start node back.1 },
  λ both.
      let listed : list_any (nat_eq node) ahead ≡ true = any_of node ahead (along.1 both.there) in
      let at : get_or marks node 0 ≡ stamp = against.1 (reversed_leads arcs both.back.0 node start both.back.1) in
      let marked : nat_eq (get_or marks node 0) stamp ≡ true = grind arith in
      ap (λ b. b && nat_eq (get_or marks node 0) stamp) listed ∙ marked,
)

pub all_within : (arcs : List Arc) (nodes start : ℕ) (ahead : List ℕ) → AreWithin nodes arcs → start < nodes
    → ((node : ℕ) → Contains ahead node ↔ Leads arcs start node) → All (λ node. node < nodes) ahead
all_within arcs nodes start ahead within low along k d below =
    let leads = (along (get_or ahead k d)).0 (k, below, get_or_default ahead k _ d below) in
    leads_within arcs nodes within leads.0 start (get_or ahead k d) low leads.1
