-- Names that are put one after the other.
use Rattle.std.proofs.Common.{◌≡◌, ℕ, ◌+◌, ◌<◌, ◌≤◌, List, [], ◌∷◌, ◌++◌, length, get_or, take, drop, Some, set, inl, inr, sym, ap, ap₂, ◌∙◌, arith}
use Rattle.std.proofs.Common.{append_assoc, append-nil, length-append, add-one, drop-drop}
use Rattle.std.specs.List.{concat}
use Rattle.std.specs.Prelude.{slice_get}
use Rattle.std.proofs.Math.Seq.{take-append_seam, drop-append_seam, take-suc}
use Rattle.std.proofs.lemmas.Bool.{cases_eq}
use Rattle.std.proofs.lemmas.List.{get_or-set_same, get_or-set_other, take-append-drop}
use Rattle.std.proofs.lemmas.List.Folds.{concat-append}
use Rattle.std.proofs.lemmas.Option.{get_or_from_slice_get}
use borrow.Rule.Slice.PartMut.{put_mid}

pub next_name : (names : List (List ℕ)) (n : ℕ) (name : List ℕ) → n < length names → slice_get names n ≡ Some name
    → concat (take (n + 1) names) ≡ concat (take n names) ++ name
next_name names n name there is =
    ap (λ m. concat (take m names)) (add-one n)
    ∙ ap concat (take-suc names n [] there)
    ∙ concat-append (take n names) (get_or names n [] ∷ [])
    ∙ ap (λ l. concat (take n names) ++ l) (append-nil (get_or names n []) ∙ get_or_from_slice_get names n name [] is)

pub within_names : (names : List (List ℕ)) (n : ℕ) (name : List ℕ) → n < length names → slice_get names n ≡ Some name
    → length (concat (take n names)) + length name ≤ length (concat names)
within_names names n name there is =
    let all : concat names ≡ (concat (take n names) ++ name) ++ concat (drop (n + 1) names) =
    ap concat (sym (take-append-drop (n + 1) names)) ∙ concat-append (take (n + 1) names) (drop (n + 1) names)
    ∙ ap (λ l. l ++ concat (drop (n + 1) names)) (next_name names n name there is) in
    omega (
      arith,
      ap length all,
      length-append (concat (take n names) ++ name) (concat (drop (n + 1) names)),
      length-append (concat (take n names)) name,
    )

pub put_behind : (at k : ℕ) (before old name : List ℕ) → at ≡ length before → k ≡ length name
    → put_mid at k (before ++ drop at old) name ≡ (before ++ name) ++ drop (at + k) old
put_behind at k before old name stands size =
    let at_seam : take at (before ++ drop at old) ≡ before =
    ap (λ n. take n (before ++ drop at old)) stands ∙ take-append_seam before (drop at old) in
    let behind : drop at (before ++ drop at old) ≡ drop at old =
    ap (λ n. drop n (before ++ drop at old)) stands ∙ drop-append_seam before (drop at old) in
    ap₂ (λ u v. u ++ (name ++ drop k v)) at_seam behind
    ∙ ap (λ l. before ++ (name ++ l)) (drop-drop k at old)
    ∙ sym (append_assoc before name (drop (at + k) old))

-- what is told of one number more than before
pub known_further : (names : List (List ℕ)) (number end : ℕ) (ends : List ℕ) → number < length ends → end ≡ length (concat (take (number + 1) names))
    → ((n : ℕ) → n < number → get_or ends n 0 ≡ length (concat (take (n + 1) names)))
    → (n : ℕ) → n < number + 1 → get_or (set ends number end) n 0 ≡ length (concat (take (n + 1) names))
known_further names number end ends there is before n below = elim (cases_eq n number) [
  | inl same ↦ ap (λ m. get_or (set ends number end) m 0) same ∙ get_or-set_same ends number end 0 there ∙ is
      ∙ ap (λ m. length (concat (take (m + 1) names))) (sym same)
  | inr apart ↦ get_or-set_other ends number n end 0 apart ∙ before n (omega (arith, below, apart))
]
