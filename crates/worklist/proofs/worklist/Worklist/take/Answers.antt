use Rattle.std.proofs.Common.{◌≡◌, ◌<◌, ℕ, Bool, false, true, List, length, get_or, set, subst, ap, ◌∙◌, refl}
use Rattle.worklist.specs.Worklist.{IsMarked, AreClear}
use Rattle.worklist.specs.Tables.MarkWords.{is_marked_in}
use Rattle.worklist.proofs.words.MarkLemmas.{takes, marked-low, clear_marks}
use Rattle.worklist.proofs.worklist.Worklist.take.Goals as goal

pub returns-in-None : goal.returns-in-None
returns-in-None c =
    let zero = subst (λ (ws : List ℕ). (k : ℕ) → k < length ws → get_or ws k 0 ≡ 0) c.as_slice-words.ensures.value c.in-None.ensures in
    (subst AreClear c.self.view_is (clear_marks c.self.inside.words.items c.self.inside.order zero), refl)

pub point_at-point-requires : goal.point_at-point-requires
point_at-point-requires c =
    let marked = subst (λ (ws : List ℕ). is_marked_in ws c.in-Some.rank ≡ true) c.as_slice-words.ensures.value c.in-Some.ensures in
    marked-low c.self.inside.words.items (length c.self.inside.order) c.in-Some.rank c.self.invariant marked

pub invariant_of-self : goal.invariant_of-self
invariant_of-self c =
    let marked = subst (λ (ws : List ℕ). is_marked_in ws c.in-Some.rank ≡ true) c.as_slice-words.ensures.value c.in-Some.ensures in
    (takes c.self.inside.words.items c.self.inside.order c.in-Some.rank c.index_mut.result.now c.point_at-point.result c.self.invariant
    c.point_at-point.ensures.order marked c.index_mut.ensures.value c.point_at-point.ensures.there c.point_at-point.ensures.rank).0.holds

pub returns : goal.returns
returns c =
    let marked = subst (λ (ws : List ℕ). is_marked_in ws c.in-Some.rank ≡ true) c.as_slice-words.ensures.value c.in-Some.ensures in
    let taken = takes c.self.inside.words.items c.self.inside.order c.in-Some.rank c.index_mut.result.now c.point_at-point.result c.self.invariant
    c.point_at-point.ensures.order marked c.index_mut.ensures.value c.point_at-point.ensures.there c.point_at-point.ensures.rank in (
      subst (λ (view : List Bool). IsMarked view c.point_at-point.result) c.self.view_is taken.1,
      c.go_behind.ensures ∙ (taken.0.worklist ∙ ap (λ (view : List Bool). set view c.point_at-point.result false) c.self.view_is),
    )
