-- Procedures that can't kill a bit keep it
use Rattle.std.proofs.Common.{◌≡◌, ◌<◌, ◌+◌, ◌++◌, ◌∷◌, [], ℕ, Bool, true, false, not, List, drop, length, slice_index_or, take, inl, inr, refl, sym, ap, ◌∙◌}
use Rattle.std.proofs.Common.{subst, arith, append-nil, take_all}
use Rattle.std.proofs.lemmas.Bool.{cases_lt}
use Rattle.std.proofs.lemmas.Grind.{common_steps}
use Rattle.std.proofs.lemmas.List.{drop_all}
use Rattle.flow_graph.specs.declared.edge.Edge.TheVariants.{Call, Step}
use Rattle.flow_graph.specs.Paths.{Shape, Transfer, IsEdge}
use Rattle.flow_links.specs.Shapes.{IsNumbered}
use Rattle.summary_equations.specs.Equations.{CallsAt, Preserved, preserved_at_entry, preserved_by_call, preserved_by_step}
use Rattle.summary_equations.specs.Equations.{Reached, entry_is_reached, reached_by_call, reached_by_step}
use Rattle.flow_why.specs.code.Scopes.{AreClosedUp, AreKept, MarkKills, Stays}

module _ (shape : Shape) (transfer : Transfer) (backward : Bool) (points : ℕ) (numbered : IsNumbered shape backward points) (touched : List Bool)
    (kills : MarkKills shape transfer touched points) (closed : AreClosedUp shape touched) where
  abbrev IsTouched : ℕ → Bool
  IsTouched p = slice_index_or touched p false

  unkilled : (x y : ℕ) → IsEdge shape (Step x y) → IsTouched (shape.procedure_of x) ≡ false → transfer.kill x y ≡ false
  unkilled x y edge clean = by_kill (transfer.kill x y) refl where
    by_kill : (b : Bool) → transfer.kill x y ≡ b → b ≡ false
    by_kill true kill = absurd (let marked : IsTouched (shape.procedure_of x) ≡ true = kills x y (numbered.edge_in_range (Step x y) edge).0 edge kill in
        cc (marked, clean))
    by_kill false kill = refl

  clean_callee : (site x p : ℕ) → CallsAt shape site x p → IsTouched (shape.procedure_of x) ≡ false → IsTouched p ≡ false
  clean_callee site x p call clean = by_mark (IsTouched p) refl where
    by_mark : (b : Bool) → IsTouched p ≡ b → b ≡ false
    by_mark true mark = absurd (let up : IsTouched (shape.procedure_of x) ≡ true = closed site x p call mark in cc (up, clean))
    by_mark false mark = refl

  pub clean_keeps : (x : ℕ) → Reached shape x → IsTouched (shape.procedure_of x) ≡ false → Preserved shape transfer.kill x
  clean_keeps _ (entry_is_reached p there) clean = preserved_at_entry p there
  clean_keeps _ (reached_by_step x y edge reached) clean =
      let before : IsTouched (shape.procedure_of x) ≡ false = ap IsTouched (numbered.formed.step_inside x y edge) ∙ clean in
      preserved_by_step x y edge reached (clean_keeps x reached before) (unkilled x y edge before)
  clean_keeps _ (reached_by_call site x p z call return reached through) clean =
      let inside = numbered.formed.site_inside site x (shape.entry p) (shape.exit p) z call.1 return in
      let before : IsTouched (shape.procedure_of x) ≡ false = ap IsTouched inside ∙ clean in
      let callee : IsTouched (shape.procedure_of (shape.exit p)) ≡ false =
      ap IsTouched (numbered.formed.exit_inside p call.0) ∙ clean_callee site x p call before in
      preserved_by_call site x p z call return reached through (clean_keeps x reached before) (clean_keeps (shape.exit p) through callee)

-- a vector that was written over as a whole
pub written_over : (n : ℕ) (new items : List Bool) → n ≡ length items → length new ≡ length items
    → new ≡ take n (new ++ drop (length new) items)
written_over n new items size same =
    let none : drop (length new) items ≡ [] = drop_all (length new) items (omega (arith, same)) in
    sym (ap (λ (r : List Bool). take n (new ++ r)) none ∙ ap (λ (r : List Bool). take n r) (append-nil new) ∙ take_all n new (omega (arith, size, same)))

-- one mark more
module _ {P : ℕ → Type 0} (marks : List Bool) (mark : Bool) (here : mark ≡ true → P (length marks))
    (before : (p : ℕ) → slice_index_or marks p false ≡ true → P p) where
  pub one_more : (p : ℕ) → slice_index_or (marks ++ mark ∷ []) p false ≡ true → P p
  one_more p is = elim (cases_lt p (length marks)) [
    | inl less ↦
        let same : slice_index_or (marks ++ mark ∷ []) p false ≡ slice_index_or marks p false = grind (arith, common_steps) in
        before p (sym same ∙ is)
    | inr past ↦ elim (cases_lt (length marks) p) [
      | inl beyond ↦
          let none : slice_index_or (marks ++ mark ∷ []) p false ≡ false = grind (arith, common_steps) in
          absurd (cc (none, is))
      | inr low ↦
          let at : p ≡ length marks = omega (arith, past, low) in
          let last : slice_index_or (marks ++ mark ∷ []) (length marks) false ≡ mark = grind (arith, common_steps) in
          let marked : mark ≡ true = sym last ∙ (ap (λ n. slice_index_or (marks ++ mark ∷ []) n false) (sym at) ∙ is) in
          subst P (sym at) (here marked)
    ]
  ]

-- the steps from one point more
pub more_kills : (shape : Shape) (transfer : Transfer) (old new : List Bool) (at : ℕ) → Stays old new → MarkKills shape transfer old at
    → ((y : ℕ) → IsEdge shape (Step at y) → transfer.kill at y ≡ true → slice_index_or new (shape.procedure_of at) false ≡ true)
    → MarkKills shape transfer new (at + 1)
more_kills shape transfer old new at stays before here x y below edge kill = elim (cases_lt x at) [
  | inl less ↦ stays (shape.procedure_of x) (before x y less edge kill)
  | inr past ↦
      let same : at ≡ x = omega (arith, below, past) in
      subst (λ (n : ℕ). IsEdge shape (Step n y) → transfer.kill n y ≡ true → slice_index_or new (shape.procedure_of n) false ≡ true) same (here y) edge kill
]

pub size_more : (marks : List Bool) (mark : Bool) → length (marks ++ mark ∷ []) ≡ length marks + 1
size_more marks mark = grind (arith, common_steps)

pub more_kept : (shape : Shape) (transfer : Transfer) (marks : List Bool) (mark : Bool)
    → (mark ≡ true → Preserved shape transfer.kill (shape.exit (length marks))) → AreKept shape transfer marks
    → AreKept shape transfer (marks ++ mark ∷ [])
more_kept shape transfer marks mark here before = one_more {P = λ p. Preserved shape transfer.kill (shape.exit p)} marks mark here before

pub not_marked : (b : Bool) → not b ≡ true → b ≡ false
not_marked true e = absurd (cc e)
not_marked false e = refl

pub not_skipped : (b c : Bool) → c ≡ not b → c ≡ false → b ≡ true
not_skipped true c same e = refl
not_skipped false c same e = absurd (cc (same, e))

pub marks_clash : (xs ys : List Bool) (p : ℕ) → ys ≡ xs → slice_index_or xs p false ≡ true → slice_index_or ys p false ≡ false → ⊥
marks_clash xs ys p same marked unmarked =
    let other : slice_index_or ys p false ≡ true = ap (λ (m : List Bool). slice_index_or m p false) same ∙ marked in
    cc (other, unmarked)

-- What does not lead to a procedure is skipped: what calls one that leads there leads there too.
pub callers_lead : (shape : Shape) (backward : Bool) (points : ℕ) → IsNumbered shape backward points → (leads skipped : List Bool)
    → AreClosedUp shape leads → ((p : ℕ) → p < shape.procedures → slice_index_or skipped p false ≡ not (slice_index_or leads p false))
    → (site x p : ℕ) → CallsAt shape site x p → slice_index_or skipped p false ≡ false
    → slice_index_or skipped (shape.procedure_of x) false ≡ false
callers_lead shape backward points numbered leads skipped closed each site x p call into =
    let here : slice_index_or leads p false ≡ true =
    not_skipped (slice_index_or leads p false) (slice_index_or skipped p false) (each p call.0) into in
    let up : slice_index_or leads (shape.procedure_of x) false ≡ true = closed site x p call here in
    let there : shape.procedure_of x < shape.procedures =
    numbered.procedure_in_range x (numbered.edge_in_range (Call site x (shape.entry p)) call.1).0 in
    each (shape.procedure_of x) there ∙ ap not up

-- where all procedures are marked, callers are
pub all_closed : (shape : Shape) (backward : Bool) (points : ℕ) → IsNumbered shape backward points → (marks : List Bool)
    → ((p : ℕ) → p < shape.procedures → slice_index_or marks p false ≡ true) → AreClosedUp shape marks
all_closed shape backward points numbered marks each site x p call is =
    each (shape.procedure_of x) (numbered.procedure_in_range x (numbered.edge_in_range (Call site x (shape.entry p)) call.1).0)
