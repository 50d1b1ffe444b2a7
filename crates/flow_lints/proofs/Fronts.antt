-- The remarks of one point in the list of all, as lints
use Rattle.std.proofs.Common.{◌≡◌, ℕ, zero, suc, ◌+◌, ◌<◌, false, List, [], ◌∷◌, ◌++◌, map, flat_map, nat_eq, refl, sym, ap, ◌∙◌}
use Rattle.std.proofs.Common.{arith, drop}
use Rattle.std.specs.List.{filter, range_with_len}
use Rattle.std.proofs.lemmas.List.Concat.{flat_map-cons}
use Rattle.flow_graph.proofs.paths.PathLemmas.{nat_eq_same}
use Rattle.flow_lints.specs.Lints.{is_kept, lints_placed_at}
use Rattle.flow_lints.specs.code.Lints.{all_told, behind, front}
use Rattle.flow_lints.specs.declared.lint.Lint.TheVariants.{Told}
use Rattle.flow_lints.specs.declared.lint.PlacedLint.{PlacedLint}
use Rattle.flow_reports.specs.Listed.{placed_at}
use Rattle.flow_reports.specs.declared.listed.PlacedRemark.{PlacedRemark}
use Rattle.flow_reports.specs.declared.remark.Remark.{Remark}
use Rattle.flow_reports.specs.declared.remark.Remark.TheVariants.{NeverReached, Unset, Computed, VeryBusy, Dead}

-- the remarks at one point that are kept, as lints
pub told_at : (point : ℕ) (remarks : List Remark)
    → all_told (placed_at point remarks) ≡ lints_placed_at point (map (λ remark. Told remark) (filter is_kept remarks))
told_at point [] = refl
told_at point (NeverReached ∷ rest) = told_at point rest
told_at point (Unset v ∷ rest) =
    ap (λ (ls : List PlacedLint). record { point = point; lint = Told (Unset v) } ∷ ls) (told_at point rest)
told_at point (Computed e ∷ rest) =
    ap (λ (ls : List PlacedLint). record { point = point; lint = Told (Computed e) } ∷ ls) (told_at point rest)
told_at point (VeryBusy e ∷ rest) =
    ap (λ (ls : List PlacedLint). record { point = point; lint = Told (VeryBusy e) } ∷ ls) (told_at point rest)
told_at point (Dead v ∷ rest) = told_at point rest

-- the remarks of a point in front of those of others
front_here : (point : ℕ) (remarks : List Remark) (rest : List PlacedRemark) → front point rest ≡ []
    → front point (placed_at point remarks ++ rest) ≡ placed_at point remarks
front_here point [] rest none = none
front_here point (remark ∷ remarks) rest none =
    rw (nat_eq_same point) (ap (λ (rs : List PlacedRemark). record { point = point; remark = remark } ∷ rs) (front_here point remarks rest none))

behind_here : (point : ℕ) (remarks : List Remark) (rest : List PlacedRemark) → behind point rest ≡ rest
    → behind point (placed_at point remarks ++ rest) ≡ rest
behind_here point [] rest none = none
behind_here point (remark ∷ remarks) rest none = rw (nat_eq_same point) (behind_here point remarks rest none)

-- and of others in front
front_later : (point other : ℕ) (remarks : List Remark) (rest : List PlacedRemark) → point < other → front point rest ≡ []
    → front point (placed_at other remarks ++ rest) ≡ []
front_later point other [] rest later none = none
front_later point other (remark ∷ remarks) rest later none =
    let differs : nat_eq other point ≡ false = grind arith in
    rw differs refl

behind_later : (point other : ℕ) (remarks : List Remark) (rest : List PlacedRemark) → point < other → behind point rest ≡ rest
    → behind point (placed_at other remarks ++ rest) ≡ placed_at other remarks ++ rest
behind_later point other [] rest later none = none
behind_later point other (remark ∷ remarks) rest later none =
    let differs : nat_eq other point ≡ false = grind arith in
    rw differs refl

module _ (remarks_of : ℕ → List Remark) where
  abbrev pub listed : ℕ → ℕ → List PlacedRemark
  listed a n = flat_map (λ point. placed_at point (remarks_of point)) (range_with_len a n)

  listed-cons : (a n : ℕ) → listed a (suc n) ≡ placed_at a (remarks_of a) ++ listed (a + 1) n
  listed-cons a n = flat_map-cons (λ point. placed_at point (remarks_of point)) a (range_with_len (a + 1) n)

  none_in_front : (point a n : ℕ) → point < a → front point (listed a n) ≡ []
  none_in_front point a zero later = refl
  none_in_front point a (suc n) later =
      ap (front point) (listed-cons a n)
      ∙ front_later point a (remarks_of a) (listed (a + 1) n) later (none_in_front point (a + 1) n (omega (arith, later)))

  all_behind : (point a n : ℕ) → point < a → behind point (listed a n) ≡ listed a n
  all_behind point a zero later = refl
  all_behind point a (suc n) later =
      ap (behind point) (listed-cons a n)
      ∙ behind_later point a (remarks_of a) (listed (a + 1) n) later (all_behind point (a + 1) n (omega (arith, later)))
      ∙ sym (listed-cons a n)

  -- the remarks of the first of some points, and those of the others
  pub first_in_front : (a n : ℕ) → front a (listed a (suc n)) ≡ placed_at a (remarks_of a)
  first_in_front a n =
      ap (front a) (listed-cons a n) ∙ front_here a (remarks_of a) (listed (a + 1) n) (none_in_front a (a + 1) n (omega arith))

  pub others_behind : (a n : ℕ) → behind a (listed a (suc n)) ≡ listed (a + 1) n
  others_behind a n =
      ap (behind a) (listed-cons a n) ∙ behind_here a (remarks_of a) (listed (a + 1) n) (all_behind a (a + 1) n (omega arith))

-- The kept remarks of a point are put, of those that stand from one place on and before another: what is left to put is the same.
pub record PutSoFar (point : ℕ) (remarks : List PlacedRemark) (from at : ℕ) (old new : List PlacedLint) : Type 0 where
  pub behind_same : behind point (drop at remarks) ≡ behind point (drop from remarks)
  pub put_same : new ++ all_told (front point (drop at remarks)) ≡ old ++ all_told (front point (drop from remarks))
