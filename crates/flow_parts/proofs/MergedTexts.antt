-- The texts of all parts, merged in any order, are the report.
use Rattle.std.proofs.Common.{◌≡◌, refl, ℕ, zero, suc, if◌then◌else◌, ◌+◌, ◌<◌, ◌≤◌, ◌==◌, Bool, true, false, not, List, []}
use Rattle.std.proofs.Common.{◌∷◌, Ok, sym, ap, ◌∙◌, subst, arith, ◌⊎◌, inl, inr}
use Rattle.std.specs.List.{list_all, range_with_len}
use Rattle.std.proofs.lemmas.Bool.{and_parts, eqb-true}
use Rattle.std.proofs.lemmas.List.FromFn.{length-range_with_len}
use Rattle.std.proofs.lemmas.List.Sorted.{length_permutation}
use Rattle.part_texts.specs.Lines.{is_line_feed, is_space}
use Rattle.part_texts.specs.declared.form.PartForm.TheVariants.{Report}
use Rattle.flow_parts.specs.MergeLaws.{MergedTextsAreTheReport, counts_of, is_plain, read_as}
use Rattle.flow_parts.specs.Parts.{part_of}
use Rattle.flow_parts.proofs.Joining.{AreOfOne, in_range, merges}
use Rattle.flow_parts.proofs.MergeLists.{Each, at_most_once, each_more, stands}
use Rattle.flow_parts.proofs.Merging.{merged_are, stands_same}
use Rattle.flow_parts.proofs.ReadingBack.{Clear}
use Rattle.flow_parts.proofs.ReadingParts.{part_back}

plain : (digest : List ℕ) → list_all is_plain digest ≡ true → Each (λ b. (is_space b ≡ false) × (is_line_feed b ≡ false)) digest
plain [] all = tt
plain (b ∷ digest) all =
    let both : (is_plain b ≡ true) × (list_all is_plain digest ≡ true) = and_parts _ _ all in
    let parts : (not (is_space b) ≡ true) × (not (is_line_feed b) ≡ true) = and_parts _ _ both.0 in
    ((not_true (is_space b) parts.0, not_true (is_line_feed b) parts.1), plain digest both.1)
  where
    not_true : (c : Bool) → not c ≡ true → c ≡ false
    not_true true is = absurd (cc is)
    not_true false is = refl

abbrev tally : Bool → ℕ
tally b = if b then 1 else 0

-- what stands in a range
bounds : (m a n : ℕ) → 0 < stands m (range_with_len a n) → (a ≤ m) × (m < a + n)
bounds m a zero some = absurd (omega (arith, some))
bounds m a (suc n) some = by (a == m) refl (bounds m (a + 1) n)
  where
    by : (b : Bool) → (a == m) ≡ b → (0 < stands m (range_with_len (a + 1) n) → (a + 1 ≤ m) × (m < a + 1 + n)) → (a ≤ m) × (m < a + suc n)
    by true here rest = let same : a ≡ m = eqb-true a m here in (omega (arith, same), omega (arith, same))
    by false other rest =
        let e : tally (a == m) ≡ 0 = ap tally other in
        let later : 0 < stands m (range_with_len (a + 1) n) = omega (arith, e, some) in
        let within : (a + 1 ≤ m) × (m < a + 1 + n) = rest later in
        (omega (arith, within.0), omega (arith, within.1))

pub texts_are : MergedTextsAreTheReport
texts_are program known digest count [] sound rise fit is some few moved =
    absurd (let e : 0 ≡ count = length_permutation (range_with_len 1 count) [] moved ∙ length-range_with_len 1 count in omega (arith, e, some))
texts_are program known digest count (k ∷ ks) sound rise fit is some few moved =
    let each = plain digest is in
    let spaces : Clear is_space digest = each_more _ (λ b. is_space b ≡ false) (λ b both. both.0) digest each in
    let feeds : Clear is_line_feed digest = each_more _ (λ b. is_line_feed b ≡ false) (λ b both. both.1) digest each in
    let same : (j : ℕ) → stands j (k ∷ ks) ≡ stands j (range_with_len 1 count) = λ j. stands_same j (range_with_len 1 count) (k ∷ ks) moved in
    let one : AreOfOne (read_as digest program known count) Report digest (counts_of program) count =
    record { form_is = λ j. refl; number = λ j. refl; count_is = λ j. refl; digest_is = λ j. refl; counts_is = λ j. refl } in
    merges (read_as digest program known count) (part_of digest program known count) Report digest (counts_of program) count one k ks
    (λ j there.
    let within : (1 ≤ j) × (j < 1 + count) = bounds j 1 count (subst (λ n. 0 < n) (same j) there) in
    part_back program known digest count j sound fit spaces feeds within.0 (omega (arith, within.1)) few)
    (λ j. subst (λ n. n ≤ 1) (sym (same j)) (at_most j))
    (λ j from less. subst (λ n. 0 < n) (sym (same j)) (in_range j 1 count from less))
    ∙ ap Ok (merged_are program known digest count (k ∷ ks) sound rise some few moved)
  where
    at_most : (j : ℕ) → stands j (range_with_len 1 count) ≤ 1
    at_most j = by (at_most_once j 1 count)
      where
        by : (stands j (range_with_len 1 count) ≡ 0) ⊎ (stands j (range_with_len 1 count) ≡ 1) → stands j (range_with_len 1 count) ≤ 1
        by (inl e) = omega (arith, e)
        by (inr e) = omega (arith, e)
