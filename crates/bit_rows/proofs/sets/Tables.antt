-- Tables of one set for each point.
use Rattle.std.proofs.Common.{◌≡◌, ℕ, ◌<◌, ◌≤◌, Bool, List, length, get_or, replicate, sym, ap, ◌∙◌, subst, inl, inr, arith}
use Rattle.std.proofs.lemmas.List.{get_or-set_same, get_or-set_other, length-set, get_or-replicate, get_or_past, length-replicate}
use Rattle.std.proofs.lemmas.Bool.{cases_lt, cases_eq}
use Rattle.bit_rows.specs.RowSet.{RowSet, HasRange, hi_of, empty_set}
use Rattle.bit_rows.specs.RowTable.{RowTable, IsUniform, set_at, blank_table, with_set}
use Rattle.bit_rows.proofs.sets.SetLaws.{HasRange-empty_set}

same_default : (n point : ℕ) (s : RowSet) → get_or (replicate n s) point s ≡ s
same_default n point s = elim (cases_lt point n) [
  | inl within ↦ get_or-replicate n point s s within
  | inr past ↦ get_or_past (replicate n s) point s (omega (arith, past, length-replicate n s))
]

-- each set of a blank table is empty
pub set_at-blank_table : (flags : List Bool) (lo hi point : ℕ) → set_at (blank_table flags lo hi) point ≡ empty_set lo hi
set_at-blank_table flags lo hi point = same_default (length flags) point (empty_set lo hi)

pub IsUniform-blank_table : (flags : List Bool) (lo hi : ℕ) → lo ≤ hi → IsUniform (blank_table flags lo hi)
IsUniform-blank_table flags lo hi ordered = record {
  ordered = ordered;
  count = length-replicate (length flags) (empty_set lo hi);
  ranges = λ point. subst (λ (s : RowSet). HasRange s lo hi) (sym (set_at-blank_table flags lo hi point)) (HasRange-empty_set lo hi ordered);
}

-- ---- one point's set replaced
pub set_at-with_set_same : (t : RowTable) (point : ℕ) (s : RowSet) → point < length t.sets → set_at (with_set t point s) point ≡ s
set_at-with_set_same t point s within = get_or-set_same t.sets point s (empty_set t.lo t.hi) within

pub set_at-with_set_other : (t : RowTable) (point other : ℕ) (s : RowSet) → (other ≡ point → ⊥) → set_at (with_set t point s) other ≡ set_at t other
set_at-with_set_other t point other s apart = get_or-set_other t.sets point other s (empty_set t.lo t.hi) apart

pub IsUniform-with_set : (t : RowTable) (point : ℕ) (s : RowSet) → IsUniform t → point < length t.flags → HasRange s t.lo t.hi
    → IsUniform (with_set t point s)
IsUniform-with_set t point s uniform within range = record {
  ordered = uniform.ordered;
  count = length-set t.sets point s ∙ uniform.count;
  ranges = λ other. elim (cases_eq other point) [
    | inl same ↦
        let there : set_at (with_set t point s) other ≡ s =
        ap (set_at (with_set t point s)) same ∙ set_at-with_set_same t point s (omega (arith, within, uniform.count)) in
        subst (λ (u : RowSet). HasRange u t.lo t.hi) (sym there) range
    | inr apart ↦ subst (λ (u : RowSet). HasRange u t.lo t.hi) (sym (set_at-with_set_other t point other s apart)) (uniform.ranges other)
  ];
}

-- a point's set, made into another of its own range, leaves the table uniform
pub IsUniform-replaced : (t : RowTable) (point : ℕ) (row s : RowSet) → IsUniform t → point < length t.flags → row ≡ set_at t point
    → HasRange s row.lo (hi_of row) → IsUniform (with_set t point s)
IsUniform-replaced t point row s uniform within is_row range =
    let old = uniform.ranges point in
    IsUniform-with_set t point s uniform within (record {
      lo = range.lo ∙ ap (λ (u : RowSet). u.lo) is_row ∙ old.lo;
      hi = range.hi ∙ ap hi_of is_row ∙ old.hi;
    })
