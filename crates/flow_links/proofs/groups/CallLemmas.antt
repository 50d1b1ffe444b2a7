-- Lists made over the calls alone, and over all edges
use Rattle.std.proofs.Common.{◌≡◌, ℕ, ◌<◌, true, List, refl, sym, subst, arith, Contains}
use Rattle.std.specs.List.{filter}
use Rattle.flow_graph.proofs.lists.Membership.{Contains-in_filter, Contains-filter}
use Rattle.flow_graph.specs.declared.edge.Edge.{Edge}
use Rattle.flow_graph.specs.declared.edge.Edge.TheVariants.{Step, Call, Ret}
use Rattle.flow_graph.specs.Paths.{Shape}
use Rattle.flow_links.specs.Tables.EdgeLists.{AreEdges, AreListed, is_call, key_of}
use Rattle.flow_links.specs.declared.list_kind.ListKind.TheVariants.{Calls, Callers, Sites}

-- all edges are edges, and the calls among them too
pub all_edges : (shape : Shape) (edges : List Edge) → edges ≡ shape.edges → AreEdges shape edges
all_edges shape edges same edge there = subst (λ (es : List Edge). Contains es edge) same there

pub calls_are_edges : (shape : Shape) (calls : List Edge) → calls ≡ filter is_call shape.edges → AreEdges shape calls
calls_are_edges shape calls are edge there = (Contains-in_filter is_call shape.edges edge (subst (λ (es : List Edge). Contains es edge) are there)).0

-- the edges that stand in a list of calls are calls
pub in_calls : (shape : Shape) (points : ℕ) (edge : Edge) → key_of Calls shape points edge < points → is_call edge ≡ true
in_calls shape points (Step x y) low = absurd (omega (arith, low))
in_calls shape points (Call site x y) low = refl
in_calls shape points (Ret site x y) low = absurd (omega (arith, low))

pub in_callers : (shape : Shape) (points : ℕ) (edge : Edge) → key_of Callers shape points edge < points → is_call edge ≡ true
in_callers shape points (Step x y) low = absurd (omega (arith, low))
in_callers shape points (Call site x y) low = refl
in_callers shape points (Ret site x y) low = absurd (omega (arith, low))

pub in_sites : (shape : Shape) (points : ℕ) (edge : Edge) → key_of Sites shape points edge < shape.procedures → is_call edge ≡ true
in_sites shape points (Step x y) low = absurd (omega (arith, low))
in_sites shape points (Call site x y) low = refl
in_sites shape points (Ret site x y) low = absurd (omega (arith, low))

-- where only calls stand in a list, that of the calls is that of all edges
pub calls_listed : {Value : Type 0} {edges calls : List Edge} {key : Edge → ℕ} {value : Edge → Value} {count : ℕ} {starts : List ℕ}
    {items : List Value} → calls ≡ filter is_call edges
    → ((edge : Edge) → key edge < count → is_call edge ≡ true) → AreListed calls key value count starts items
    → AreListed edges key value count starts items
calls_listed {edges = edges} are only_calls listed = record {
  start_count = listed.start_count;
  rising = listed.rising;
  within = listed.within;
  listed = λ edge there low.
      listed.listed edge
      (subst (λ (es : List Edge). Contains es edge) (sym are) (Contains-filter is_call edges edge there (only_calls edge low))) low;
  only = λ k j low place.
      let found = listed.only k j low place in
      (found.0, (Contains-in_filter is_call edges found.0 (subst (λ (es : List Edge). Contains es found.0) are found.1)).0, found.2, found.3);
}
