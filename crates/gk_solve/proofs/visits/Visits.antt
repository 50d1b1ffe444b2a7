-- Visits of changed points: how their parts join, and that they end
use Rattle.std.proofs.Common.{◌≡◌, ◌<◌, ◌≤◌, ◌+◌, ◌*◌, ◌⊎◌, inl, inr, length, get_or, set, false, Bool, ℕ, List, arith, refl, sym, ◌∙◌, subst, ap}
use Rattle.std.proofs.Math.Nat.{mul-le-mul_left}
use Rattle.std.proofs.Math.ListN.{length-set}
use Rattle.std.proofs.lemmas.Bool.{cases_eq}
use Rattle.std.proofs.lemmas.List.{get_or-set_other}
use Rattle.flow_graph.specs.declared.edge.Edge.{Edge}
use Rattle.flow_graph.specs.Paths.{Shape, IsEdge}
use Rattle.worklist.specs.Worklist.{IsMarked, AreClear}
use Rattle.gk_solve.specs.Tables.Visits.{IsSettled, Spreads}
use Rattle.worklist.proofs.counts.MarkCounts.{mark_count, count-cleared, count-low}

module _ {Table : Type 0} {room : Table → ℕ} {Grows : Table → Table → Type 0} {Settled : Table → List Bool → Edge → Type 0} {Sound : Table → Type 0}
    {shape : Shape} where
  pub same_spreads : ((t : Table) → Grows t t) → (table : Table) (dirty : List Bool) → Spreads room Grows Settled Sound shape table dirty table dirty
  same_spreads still table dirty =
      record { count = refl; grows = still table; settled = λ edge there settled. settled; progress = inl (refl, refl); sound = λ sound. sound }

  pub spreads_more : ((a b c : Table) → Grows a b → Grows b c → Grows a c)
      → (t0 : Table) (d0 : List Bool) (t1 : Table) (d1 : List Bool) (t2 : Table) (d2 : List Bool)
      → Spreads room Grows Settled Sound shape t0 d0 t1 d1 → Spreads room Grows Settled Sound shape t1 d1 t2 d2
      → Spreads room Grows Settled Sound shape t0 d0 t2 d2
  spreads_more on t0 d0 t1 d1 t2 d2 first second = record {
    count = second.count ∙ first.count;
    grows = on t0 t1 t2 first.grows second.grows;
    settled = λ edge there settled. second.settled edge there (first.settled edge there settled);
    progress = elim first.progress [
      | inl (e, d) ↦ elim second.progress [
        | inl (e2, d2) ↦ inl (e2 ∙ e, d2 ∙ d)
        | inr less ↦ inr (subst (λ (t : Table). room t2 < room t) e less)
      ]
      | inr less ↦ elim second.progress [
        | inl (e2, d2) ↦ inr (subst (λ (t : Table). room t < room t0) (sym e2) less)
        | inr more ↦ inr (omega (arith, less, more))
      ]
    ];
    sound = λ sound. second.sound (first.sound sound);
  }

-- when no point is marked, all is closed
pub all_closed : {Table : Type 0} (Closed : Table → Edge → Type 0) (shape : Shape) (from : Edge → ℕ) (table : Table) (dirty : List Bool)
    → ((edge : Edge) → IsEdge shape edge → IsSettled Closed from table dirty edge) → AreClear dirty → (edge : Edge) → IsEdge shape edge
    → Closed table edge
all_closed Closed shape from table dirty settled clear edge there = elim (settled edge there) [
  | inl closed ↦ closed
  | inr marked ↦ let none : get_or dirty (from edge) false ≡ false = clear (from edge) in absurd (cc)
]

-- what holds of each place up to k, and of k, holds of each up to k + 1
pub place_more : (P : ℕ → Type 0) (k : ℕ) → ((j : ℕ) → j < k → P j) → P k → (j : ℕ) → j < k + 1 → P j
place_more P k before here j below = elim (cases_eq j k) [
  | inl same ↦ subst P (sym same) here
  | inr other ↦ before j (omega arith)
]

-- A pair falls: what is left to add, or as much is left and fewer points are marked. As one number: `(points + 1) * left + marked`.
pub pair_falls : (left left_after : ℕ) (dirty dirty_after : List Bool) (at : ℕ) → IsMarked dirty at → length dirty_after ≡ length (set dirty at false)
    → ((left_after ≡ left) × (dirty_after ≡ set dirty at false)) ⊎ (left_after < left)
    → (length dirty_after + 1) * left_after + mark_count dirty_after < (length dirty + 1) * left + mark_count dirty
pair_falls left left_after dirty dirty_after at marked same_length progress =
    falls left left_after (length dirty) (length dirty_after) (mark_count dirty) (mark_count dirty_after) (same_length ∙ length-set dirty at false)
    (count-low dirty_after)
    (elim progress [
      | inl (l, d) ↦ inl (
        l,
        one_less (mark_count dirty) (mark_count (set dirty at false)) (mark_count dirty_after) (count-cleared dirty at marked) (ap mark_count d),
      )
      | inr less ↦ inr less
    ])
  where
    one_less : (d cleared after : ℕ) → cleared + 1 ≡ d → after ≡ cleared → after < d
    one_less d cleared after fewer e = omega arith

    falls : (u v n m d e : ℕ) → m ≡ n → e ≤ m → ((v ≡ u) × (e < d)) ⊎ (v < u) → (m + 1) * v + e < (n + 1) * u + d
    falls u v n m d e same low (inl (equal, less)) =
        let one : (m + 1) * v ≡ (n + 1) * u = cc in omega (arith, one, less)
    falls u v n m d e same low (inr less) =
        let more : (m + 1) * (v + 1) ≤ (m + 1) * u = mul-le-mul_left (m + 1) (omega arith) in
        let equal : (m + 1) * u ≡ (n + 1) * u = cc in
        omega (arith, more, equal, low)

-- a visit leaves less room, or as much and fewer points marked
pub visit_falls : {Table : Type 0} {room : Table → ℕ} {Grows : Table → Table → Type 0} {Settled : Table → List Bool → Edge → Type 0}
    {Sound : Table → Type 0} {shape : Shape}
    (table : Table) (dirty : List Bool) (table_after : Table) (dirty_between dirty_after : List Bool) (at : ℕ) → IsMarked dirty at
    → dirty_between ≡ set dirty at false
    → Spreads room Grows Settled Sound shape table dirty_between table_after dirty_after
    → (length dirty_after + 1) * room table_after + mark_count dirty_after < (length dirty + 1) * room table + mark_count dirty
visit_falls {room = room} table dirty table_after dirty_between dirty_after at marked taken spreads =
    pair_falls (room table) (room table_after) dirty dirty_after at marked (spreads.count ∙ ap length taken)
    (elim spreads.progress [
      | inl (t, d) ↦ inl (ap room t, d ∙ taken)
      | inr less ↦ inr less
    ])

-- a mark that is taken leaves each edge settled but those from its point
pub settled_but : {Table : Type 0} (Closed : Table → Edge → Type 0) (from : Edge → ℕ) (table : Table) (dirty : List Bool) (at : ℕ) (edge : Edge)
    → IsSettled Closed from table dirty edge → (from edge ≡ at) ⊎ IsSettled Closed from table (set dirty at false) edge
settled_but Closed from table dirty at edge settled = elim (cases_eq (from edge) at) [
  | inl same ↦ inl same
  | inr other ↦ inr (elim settled [
    | inl closed ↦ inl closed
    | inr marked ↦ inr (get_or-set_other dirty at (from edge) false false other ∙ marked)
  ])
]

-- after a visit each edge is settled, where each was before, those that wait for the visited point are now, and no other waits for it: an edge
-- waits for the point that it leaves, or its procedure
pub visit_settles_from : {Table : Type 0} {room : Table → ℕ} {Grows : Table → Table → Type 0} {Sound : Table → Type 0} {shape : Shape}
    (Closed : Table → Edge → Type 0) (from : Edge → ℕ)
    (table : Table) (dirty : List Bool) (table_after : Table) (dirty_between dirty_after : List Bool) (at : ℕ) → dirty_between ≡ set dirty at false
    → Spreads room Grows (IsSettled Closed from) Sound shape table dirty_between table_after dirty_after
    → ((edge : Edge) → IsEdge shape edge → from edge ≡ at → IsSettled Closed from table_after dirty_after edge)
    → ((edge : Edge) → IsEdge shape edge → IsSettled Closed from table dirty edge) → (edge : Edge) → IsEdge shape edge
    → IsSettled Closed from table_after dirty_after edge
visit_settles_from Closed from table dirty table_after dirty_between dirty_after at taken spreads visited before edge there =
    elim (settled_but Closed from table dirty at edge (before edge there)) [
      | inl waits ↦ visited edge there waits
      | inr still ↦ spreads.settled edge there (subst (λ (d : List Bool). IsSettled Closed from table d edge) (sym taken) still)
    ]
