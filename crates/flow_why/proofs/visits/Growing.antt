-- Searches that grow
use Rattle.std.proofs.Common.{◌≡◌, ◌<◌, ◌≤◌, ◌+◌, ◌⊎◌, inl, inr, ℕ, [], ◌∷◌, ◌++◌, length, arith, refl, sym, ◌∙◌, ap, subst}
use Rattle.std.proofs.Math.ListN.{length-append}
use Rattle.std.proofs.Math.Seq.{get_or-append_seam}
use Rattle.std.proofs.lemmas.Bool.{cases_eq}
use Rattle.std.proofs.lemmas.List.{get_or_append_left}
use Rattle.flow_why.specs.code.Closed.{Family}
use Rattle.flow_why.specs.code.Found.{Extends, Found, Grows, Has, IsBefore, IsPut, IsPutIn, IsThere, MarkList, mark_at, marks_of, point_at}
use Rattle.flow_why.specs.code.Marked.{AreMarks, AreMarksOf, IsReason, MayMark, Question, Spreads}
use Rattle.flow_why.specs.declared.claim.Claim.{Claim}
use Rattle.flow_why.specs.declared.claim.Claim.TheVariants as claim
use Rattle.flow_why.specs.declared.mark.Mark.{Mark}
use Rattle.flow_why.specs.declared.mark.Reason.{Reason}
use Rattle.flow_why.specs.declared.mark.Reason.TheVariants.{Beginning, Own, Base}

abbrev none : Mark
none = record { point = 0; reason = Beginning }

pub same_extends : (marks : MarkList) → Extends marks marks
same_extends marks = record { points = refl; taken = refl; longer = omega arith; kept = λ i within. refl }

extends_as : (old new : MarkList) → new ≡ old → Extends old new
extends_as old new same = subst (Extends old) (sym same) (same_extends old)

pub extends_on : (a b c : MarkList) → Extends a b → Extends b c → Extends a c
extends_on a b c first second = record {
  points = second.points ∙ first.points;
  taken = second.taken ∙ first.taken;
  longer = omega (arith, first.longer, second.longer);
  kept = λ i within. second.kept i (omega (arith, within, first.longer)) ∙ first.kept i within;
}

pub still : (found : Found) → Grows found found
still found = record { each = λ c. same_extends (marks_of found c) }

pub grows_on : (a b c : Found) → Grows a b → Grows b c → Grows a c
grows_on a b c first second =
    record { each = λ d. extends_on (marks_of a d) (marks_of b d) (marks_of c d) (first.each d) (second.each d) }

pub before_on : (old new : MarkList) (n x : ℕ) → Extends old new → n ≤ length old.found → IsBefore old.found n x → IsBefore new.found n x
before_on old new n x extends few before =
    (before.0, before.1, ap (λ (m : Mark). m.point) (extends.kept before.0 (omega (arith, before.1, few))) ∙ before.2)

pub has_on : (old new : Found) (c : Claim) (x : ℕ) → Grows old new → Has old c x → Has new c x
has_on old new c x grows has =
    let extends = grows.each c in
    let before = before_on (marks_of old c) (marks_of new c) (length (marks_of old c).found) x extends (omega arith) has in
    (before.0, omega (arith, before.1, extends.longer), before.2)

-- a mark that was put
module _ (old : MarkList) (mark : Mark) where
  last_is : mark_at (old.found ++ mark ∷ []) (length old.found) ≡ mark
  last_is = get_or-append_seam old.found mark [] none

  kept_is : (i : ℕ) → i < length old.found → mark_at (old.found ++ mark ∷ []) i ≡ mark_at old.found i
  kept_is i within = get_or_append_left old.found (mark ∷ []) none i within

  one_longer : length (old.found ++ mark ∷ []) ≡ length old.found + 1
  one_longer = length-append old.found (mark ∷ [])

  pub put_extends : (new : MarkList) → IsPut old mark new → Extends old new
  put_extends new put = record {
    points = put.points;
    taken = put.taken;
    longer = elim put.found [ inl same ↦ omega (arith, ap length same.1) | inr more ↦ omega (arith, ap length more, one_longer) ];
    kept = λ i within. elim put.found [
      | inl same ↦ ap (λ l. mark_at l i) same.1
      | inr more ↦ ap (λ l. mark_at l i) more ∙ kept_is i within
    ];
  }

  pub put_has : (new : MarkList) → IsPut old mark new → IsThere new mark.point
  put_has new put = elim put.found [
    | inl same ↦ subst (λ l. IsBefore l (length l) mark.point) (sym same.1) same.0
    | inr more ↦ subst (λ l. IsBefore l (length l) mark.point) (sym more)
        (length old.found, omega (arith, one_longer), ap (λ (m : Mark). m.point) last_is)
  ]

-- a reason stays one behind more marks
pub reason_on : (question : Question) (c : Claim) (old new : MarkList) (n x : ℕ) (reason : Reason) → Extends old new → n ≤ length old.found
    → IsReason question c old.found n x reason → IsReason question c new.found n x reason
reason_on question c old new n x Beginning extends few is = is
reason_on question c old new n x (Own hop) extends few is = (is.0, before_on old new n is.0 extends few is.1, is.2)
reason_on question c old new n x (Base hop) extends few is = is

-- marks, and one more that may be put
marks_more : (question : Question) (c : Claim) (old : MarkList) (mark : Mark) (new : MarkList) → AreMarksOf question c old → IsPut old mark new
    → Family question.shape question.transfer c mark.point
    → IsReason question c old.found (length old.found) mark.point mark.reason → AreMarksOf question c new
marks_more question c old mark new are put holds is = record {
  points = put.points ∙ are.points;
  sound = elim put.found [ inl same ↦ old_sound same.1 | inr more ↦ new_sound more ];
  reasons = elim put.found [ inl same ↦ old_reasons same.1 | inr more ↦ new_reasons more ];
}
  where
    extends : Extends old new
    extends = put_extends old mark new put

    old_sound : new.found ≡ old.found → (i : ℕ) → i < length new.found → Family question.shape question.transfer c (point_at new.found i)
    old_sound same = subst (λ l. (i : ℕ) → i < length l → Family question.shape question.transfer c (point_at l i)) (sym same) are.sound

    old_reasons : new.found ≡ old.found → (i : ℕ) → i < length new.found
        → IsReason question c new.found i (point_at new.found i) (mark_at new.found i).reason
    old_reasons same =
        subst (λ l. (i : ℕ) → i < length l → IsReason question c l i (point_at l i) (mark_at l i).reason) (sym same) are.reasons

    at_last : new.found ≡ old.found ++ mark ∷ [] → mark_at new.found (length old.found) ≡ mark
    at_last more = ap (λ l. mark_at l (length old.found)) more ∙ last_is old mark

    place : new.found ≡ old.found ++ mark ∷ [] → (i : ℕ) → i < length new.found → (i ≡ length old.found) ⊎ (i < length old.found)
    place more i within = elim (cases_eq i (length old.found)) [
      | inl same ↦ inl same
      | inr other ↦ inr (omega (arith, within, ap length more, one_longer old mark))
    ]

    new_sound : new.found ≡ old.found ++ mark ∷ [] → (i : ℕ) → i < length new.found → Family question.shape question.transfer c (point_at new.found i)
    new_sound more i within = elim (place more i within) [
      | inl same ↦ subst (λ n. Family question.shape question.transfer c (point_at new.found n)) (sym same)
          (subst (λ (m : Mark). Family question.shape question.transfer c m.point) (sym (at_last more)) holds)
      | inr low ↦ subst (λ (m : Mark). Family question.shape question.transfer c m.point) (sym (extends.kept i low)) (are.sound i low)
    ]

    new_reasons : new.found ≡ old.found ++ mark ∷ [] → (i : ℕ) → i < length new.found
        → IsReason question c new.found i (point_at new.found i) (mark_at new.found i).reason
    new_reasons more i within = elim (place more i within) [
      | inl same ↦ subst (λ n. IsReason question c new.found n (point_at new.found n) (mark_at new.found n).reason) (sym same)
          (subst (λ (m : Mark). IsReason question c new.found (length old.found) m.point m.reason) (sym (at_last more))
          (reason_on question c old new (length old.found) mark.point mark.reason extends (omega arith) is))
      | inr low ↦ subst (λ (m : Mark). IsReason question c new.found i m.point m.reason) (sym (extends.kept i low))
          (reason_on question c old new i (point_at old.found i) (mark_at old.found i).reason extends (omega (arith, low)) (are.reasons i low))
    ]

marks_same : (question : Question) (c : Claim) (old new : MarkList) → new ≡ old → AreMarksOf question c old → AreMarksOf question c new
marks_same question c old new same are = subst (AreMarksOf question c) (sym same) are

put_each : (c : Claim) (old : Found) (mark : Mark) (new : Found) → IsPutIn c old mark new → (d : Claim) → Extends (marks_of old d) (marks_of new d)
put_each claim.Holds old mark new put claim.Holds = put_extends old.holds mark new.holds put.0
put_each claim.Holds old mark new put claim.Generated = extends_as old.generated new.generated put.1
put_each claim.Holds old mark new put claim.Preserved = extends_as old.preserved new.preserved put.2
put_each claim.Generated old mark new put claim.Holds = extends_as old.holds new.holds put.0
put_each claim.Generated old mark new put claim.Generated = put_extends old.generated mark new.generated put.1
put_each claim.Generated old mark new put claim.Preserved = extends_as old.preserved new.preserved put.2
put_each claim.Preserved old mark new put claim.Holds = extends_as old.holds new.holds put.0
put_each claim.Preserved old mark new put claim.Generated = extends_as old.generated new.generated put.1
put_each claim.Preserved old mark new put claim.Preserved = put_extends old.preserved mark new.preserved put.2

put_marks : (question : Question) (c : Claim) (old : Found) (mark : Mark) (new : Found) → IsPutIn c old mark new → AreMarks question old
    → MayMark question c old mark.point mark.reason → (d : Claim) → AreMarksOf question d (marks_of new d)
put_marks question claim.Holds old mark new put are may claim.Holds =
    marks_more question claim.Holds old.holds mark new.holds (are.each claim.Holds) put.0 may.sound may.is
put_marks question claim.Holds old mark new put are may claim.Generated = marks_same question claim.Generated _ _ put.1 (are.each claim.Generated)
put_marks question claim.Holds old mark new put are may claim.Preserved = marks_same question claim.Preserved _ _ put.2 (are.each claim.Preserved)
put_marks question claim.Generated old mark new put are may claim.Holds = marks_same question claim.Holds _ _ put.0 (are.each claim.Holds)
put_marks question claim.Generated old mark new put are may claim.Generated =
    marks_more question claim.Generated old.generated mark new.generated (are.each claim.Generated) put.1 may.sound may.is
put_marks question claim.Generated old mark new put are may claim.Preserved = marks_same question claim.Preserved _ _ put.2 (are.each claim.Preserved)
put_marks question claim.Preserved old mark new put are may claim.Holds = marks_same question claim.Holds _ _ put.0 (are.each claim.Holds)
put_marks question claim.Preserved old mark new put are may claim.Generated = marks_same question claim.Generated _ _ put.1 (are.each claim.Generated)
put_marks question claim.Preserved old mark new put are may claim.Preserved =
    marks_more question claim.Preserved old.preserved mark new.preserved (are.each claim.Preserved) put.2 may.sound may.is

pub put_spreads : (question : Question) (c : Claim) (old : Found) (mark : Mark) (new : Found) → IsPutIn c old mark new → AreMarks question old
    → MayMark question c old mark.point mark.reason → Spreads question old new
put_spreads question c old mark new put are may = record {
  grows = record { each = put_each c old mark new put };
  marks = record { each = put_marks question c old mark new put are may };
}

pub put_in_has : (c : Claim) (old : Found) (mark : Mark) (new : Found) → IsPutIn c old mark new → Has new c mark.point
put_in_has claim.Holds old mark new put = put_has old.holds mark new.holds put.0
put_in_has claim.Generated old mark new put = put_has old.generated mark new.generated put.1
put_in_has claim.Preserved old mark new put = put_has old.preserved mark new.preserved put.2

pub spreads_not : (question : Question) (found : Found) → AreMarks question found → Spreads question found found
spreads_not question found are = record { grows = still found; marks = are }

pub spreads_on : (question : Question) (a b c : Found) → Spreads question a b → Spreads question b c → Spreads question a c
spreads_on question a b c first second = record { grows = grows_on a b c first.grows second.grows; marks = second.marks }

-- what is found of a point holds of it
pub has_family : (question : Question) (found : Found) (c : Claim) (x : ℕ) → AreMarks question found → Has found c x
    → Family question.shape question.transfer c x
has_family question found c x are has = subst (Family question.shape question.transfer c) has.2 ((are.each c).sound has.0 has.1)
