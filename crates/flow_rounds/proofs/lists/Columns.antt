-- Columns, point by point
use Rattle.std.proofs.Common.{◌≡◌, ℕ, ◌+◌, ◌-◌, ◌<◌, ◌≤◌, Bool, false, List, [], ◌∷◌, ◌++◌, length, sym, ap, ◌∙◌, arith, get_or, eq-or-lt_of_le}
use Rattle.std.proofs.Common.{inl, inr, subst}
use Rattle.std.proofs.Math.ListN.{get_or-append, length-append}
use Rattle.std.proofs.Math.Seq.{get_or-append_seam}
use Rattle.flow_rounds.specs.code.Frames.{TellsColumn}
use Rattle.flow_rounds.specs.declared.point_range.PointRange.{PointRange}

abbrev pub upto : ℕ → ℕ → PointRange
upto first end = record { first = first; end = end }

pub no_column : (first : ℕ) (test : ℕ → Bool) → TellsColumn (upto first first) test []
no_column first test = record { count = omega arith; each = λ point low high. absurd (omega (arith, low, high)) }

-- with one point more
pub more_column : (first end : ℕ) (test : ℕ → Bool) (column : List Bool) (value : Bool) → first ≤ end → TellsColumn (upto first end) test column
    → value ≡ test end → TellsColumn (upto first (end + 1)) test (column ++ value ∷ [])
more_column first end test column value ordered tells is =
    let count = tells.count in
    let more : length (column ++ value ∷ []) ≡ length column + 1 = length-append column (value ∷ []) in
    record {
      count = omega (arith, count, more, ordered);
      each = λ point low high. by_place point low (let few : point ≤ end = omega (arith, high) in few);
    }
  where
    by_place : (point : ℕ) → first ≤ point → point ≤ end → get_or (column ++ value ∷ []) (point - first) false ≡ test point
    by_place point low few =
        let count = tells.count in
        elim (eq-or-lt_of_le few) [
          | inl same ↦ (let at : point - first ≡ length column = omega (arith, same, count) in
              ap (λ k. get_or (column ++ value ∷ []) k false) at ∙ get_or-append_seam column value [] false ∙ is ∙ ap test (sym same))
          | inr below ↦ (let short : point - first < length column = omega (arith, count, below, low) in
              get_or-append column (value ∷ []) false (point - first) short ∙ tells.each point low below)
        ]

-- what holds of each of some columns, and of one more
pub each_more : (P : ℕ → List Bool → Type 0) (columns : List (List Bool)) (column : List Bool) (count : ℕ) → length columns ≡ count
    → ((k : ℕ) → k < count → P k (get_or columns k [])) → P count column
    → (length (columns ++ column ∷ []) ≡ count + 1) × ((k : ℕ) → k < count + 1 → P k (get_or (columns ++ column ∷ []) k []))
each_more P columns column count same each last =
    (length-append columns (column ∷ []) ∙ ap (λ n. n + 1) same, λ k below. by_place k (let few : k ≤ count = omega (arith, below) in few))
  where
    by_place : (k : ℕ) → k ≤ count → P k (get_or (columns ++ column ∷ []) k [])
    by_place k few = elim (eq-or-lt_of_le few) [
      | inl at ↦ (let here : k ≡ length columns = omega (arith, at, same) in
          subst (P k) (sym (ap (λ n. get_or (columns ++ column ∷ []) n []) here ∙ get_or-append_seam columns column [] []))
          (subst (λ n. P n column) (sym at) last))
      | inr below ↦ (let short : k < length columns = omega (arith, below, same) in
          subst (P k) (sym (get_or-append columns (column ∷ []) [] k short)) (each k below))
    ]
