-- Walks end to end, and the other way round
use Rattle.std.proofs.Common.{◌≡◌, ℕ, List, [], ◌∷◌, ◌++◌, map, nat_eq, Contains, Bool, true, false, if◌then◌else◌, refl, sym, ap}
use Rattle.std.proofs.Common.{subst, arith}
use Rattle.flow_graph.proofs.lists.Membership.{Contains-first, Contains-nil, Contains-one, Contains-in_flat_map, Contains-flat_map, Contains-in_map}
use Rattle.flow_graph.proofs.paths.Reversal.{Contains-map}
use Rattle.graph_components.specs.Components.{IsWalk, Joins, Leads, LeadToEachOther}
use Rattle.graph_components.specs.code.Targets.{reversed_arc, target_if, targets_of}
use Rattle.graph_components.specs.declared.arc.Arc.{Arc}

walk_append : (arcs : List Arc) (nodes others : List ℕ) (x y z : ℕ) → IsWalk arcs x nodes y → IsWalk arcs y others z
    → IsWalk arcs x (nodes ++ others) z
walk_append arcs [] others x y z same walk = subst (λ s. IsWalk arcs s others z) (sym same) walk
walk_append arcs (n ∷ nodes) others x y z (joins, rest) walk = (joins, walk_append arcs nodes others n y z rest walk)

pub leads_on : (arcs : List Arc) (x y z : ℕ) → Leads arcs x y → Leads arcs y z → Leads arcs x z
leads_on arcs x y z (nodes, walk) (others, rest) = (nodes ++ others, walk_append arcs nodes others x y z walk rest)

pub arc_leads : (arcs : List Arc) (x y : ℕ) → Joins arcs x y → Leads arcs x y
arc_leads arcs x y joins = (y ∷ [], (joins, refl))

-- to lead to each other goes on from one to the next
pub each_other_on : (arcs : List Arc) (x y z : ℕ) → LeadToEachOther arcs x y → LeadToEachOther arcs y z → LeadToEachOther arcs x z
each_other_on arcs x y z one other =
    record { there = leads_on arcs x y z one.there other.there; back = leads_on arcs z y x other.back one.back }

pub each_other_back : (arcs : List Arc) (x y : ℕ) → LeadToEachOther arcs x y → LeadToEachOther arcs y x
each_other_back arcs x y other = record { there = other.back; back = other.there }

pub joins_reversed : (arcs : List Arc) (x y : ℕ) → Joins arcs x y → Joins (map reversed_arc arcs) y x
joins_reversed arcs x y joins = Contains-map reversed_arc arcs (record { from = x; to = y }) joins

pub reversed_joins : (arcs : List Arc) (x y : ℕ) → Joins (map reversed_arc arcs) x y → Joins arcs y x
reversed_joins arcs x y joins =
    let (arc, among, is) = Contains-in_map reversed_arc arcs (record { from = x; to = y }) joins in
    subst (Contains arcs) (sym (ap reversed_arc is)) among

-- a walk against the arcs is one along them from its end
pub leads_reversed : (arcs : List Arc) (nodes : List ℕ) (x y : ℕ) → IsWalk (map reversed_arc arcs) x nodes y → Leads arcs y x
leads_reversed arcs [] x y same = ([], sym same)
leads_reversed arcs (n ∷ nodes) x y (joins, rest) =
    leads_on arcs y n x (leads_reversed arcs nodes n y rest) (arc_leads arcs n x (reversed_joins arcs x n joins))

pub reversed_leads : (arcs : List Arc) (nodes : List ℕ) (x y : ℕ) → IsWalk arcs x nodes y → Leads (map reversed_arc arcs) y x
reversed_leads arcs [] x y same = ([], sym same)
reversed_leads arcs (n ∷ nodes) x y (joins, rest) =
    leads_on (map reversed_arc arcs) y n x (reversed_leads arcs nodes n y rest)
    (arc_leads (map reversed_arc arcs) n x (joins_reversed arcs x n joins))

-- the targets of a node are those to which arcs lead from it
pub targets_join : (arcs : List Arc) (x y : ℕ) → Contains (targets_of arcs x) y → Joins arcs x y
targets_join arcs x y at =
    let (arc, among, here) = Contains-in_flat_map (target_if x) arcs y at in
    by_test arc among (nat_eq x arc.from) refl here
  where
    by_test : (arc : Arc) → Contains arcs arc → (b : Bool) → nat_eq x arc.from ≡ b → Contains (if b then arc.to ∷ [] else []) y → Joins arcs x y
    by_test arc among true test here =
        let from : arc.from ≡ x = grind arith in
        let to : arc.to ≡ y = sym (Contains-one arc.to y here) in
        let same : arc ≡ record { from = x; to = y } = λ i. record { from = from i; to = to i } in
        subst (Contains arcs) same among
    by_test arc among false test here = absurd (Contains-nil y here)

pub joins_target : (arcs : List Arc) (x y : ℕ) → Joins arcs x y → Contains (targets_of arcs x) y
joins_target arcs x y joins =
    let test : nat_eq x x ≡ true = grind arith in
    Contains-flat_map (target_if x) arcs (record { from = x; to = y }) y joins
    (subst (λ b. Contains (if b then y ∷ [] else []) y) (sym test) (Contains-first y []))
