-- Pairs of keys and values, and their lists
use Rattle.std.proofs.Common.{◌≡◌, ◌<◌, ◌≤◌, ◌+◌, ◌-◌, ℕ, Bool, true, List, Option, Some, None, length, slice_index, take, drop, inl, inr, sym, ap, subst, ◌∙◌, arith}
use Rattle.std.proofs.lemmas.Bool.{cases_lt}
use Rattle.std.specs.Prelude.{IfOk, IfSome, OnOk, Result, Ok, Err}
use Rattle.std.proofs.lemmas.List.{get_or-drop, get_or-take, length-drop, length-take-le}
use Rattle.flow_graph.specs.Points.{point_count}
use Rattle.gen_kill.specs.Selections.{IsColumnAffected, Selection, column_count}
use Rattle.gen_kill.specs.code.Effects.{column_depends}
use Rattle.worklist.specs.Groups.{AreGroups, IsPlaceOf}
use Rattle.flow_regions.specs.code.Lists.{AreLow, ArePairs, IsPair}
use Rattle.flow_regions.specs.code.Touches.{AreDependentTo, AreTouchedTo, IsMarked, KeepsPairs}

pub listed_pairs : (keys values starts places listed : List ℕ) (count : ℕ) → AreGroups keys count starts places → AreLow count keys
    → length listed ≡ length places → ((j : ℕ) → j < length places → slice_index listed j ≡ slice_index values (slice_index places j))
    → (i : ℕ) → i < length keys
    → (j : ℕ) × IsPlaceOf starts (slice_index keys i) j × (j < length listed) × (slice_index listed j ≡ slice_index values i)
listed_pairs keys values starts places listed count groups low many each i there =
    let (j, place, is) = groups.listed i there in
    let within = groups.within (slice_index keys i) (low i there) in
    let short : j < length places = omega (arith, place.high, within, groups.size) in
    (j, place, omega (arith, short, many), each j short ∙ ap (slice_index values) is)

-- a part of a list
pub sliced : (xs : List ℕ) (from until j v : ℕ) → from ≤ j → j < until → until ≤ length xs → slice_index xs j ≡ v
    → (x : ℕ) × (x < length (take (until - from) (drop from xs))) × (slice_index (take (until - from) (drop from xs)) x ≡ v)
sliced xs from until j v above below within is =
    let rest : length (drop from xs) ≡ length xs - from = length-drop from xs in
    let many : length (take (until - from) (drop from xs)) ≡ until - from = length-take-le (until - from) (drop from xs) (omega (arith, rest, above, below, within)) in
    let place : from + (j - from) ≡ j = omega (arith, above) in (
      j - from,
      omega (arith, many, above, below),
      get_or-take (until - from) (drop from xs) (j - from) 0 (omega (arith, above, below)) ∙ get_or-drop from xs (j - from) 0
          ∙ ap (slice_index xs) place ∙ is,
    )

-- each number of a part is one of the list
pub low_part : (limit : ℕ) (xs : List ℕ) (from until : ℕ) → until ≤ length xs → from ≤ until → AreLow limit xs → AreLow limit (take (until - from) (drop from xs))
low_part limit xs from until within ordered low i short =
    let rest : length (drop from xs) ≡ length xs - from = length-drop from xs in
    let many : length (take (until - from) (drop from xs)) ≡ until - from = length-take-le (until - from) (drop from xs) (omega (arith, rest, ordered, within)) in
    let under : i < until - from = omega (arith, short, many) in
    subst (λ n. n < limit) (sym (get_or-take (until - from) (drop from xs) i 0 under ∙ get_or-drop from xs i 0)) (low (from + i) (omega (arith, under, ordered, within)))

pub found_as : {T E : Type 0} (P Q : T → Type 0) (r : Result (Option T) E) → ((t : T) → P t → Q t) → IfOk r (λ o. IfSome o P) → IfOk r (λ o. IfSome o Q)
found_as P Q (Ok (Some t)) f holds = f t holds
found_as P Q (Ok None) f holds = holds
found_as P Q (Err e) f holds = holds

pub on_ok_three : {T E : Type 0} (P Q R S : Type 0) (r : Result T E) → (P → Q → R → S) → OnOk r P → OnOk r Q → OnOk r R → OnOk r S
on_ok_three P Q R S (Ok t) f one two three = f one two three
on_ok_three P Q R S (Err e) f one two three = one

-- pairs stay where more are put behind them
pub keeps_trans : (k v l w m x : List ℕ) → KeepsPairs k v l w → KeepsPairs l w m x → KeepsPairs k v m x
keeps_trans k v l w m x one other key value pair = other key value (one key value pair)

pub touched_more : (sel : Selection) (marks : List Bool) (point : ℕ) (keys values more_keys more_values : List ℕ) → AreTouchedTo sel marks point keys values
    → ArePairs (column_count sel) (point_count sel.program) more_keys more_values → KeepsPairs keys values more_keys more_values
    → ((column : ℕ) → column < column_count sel → IsMarked marks column → IsColumnAffected sel point column
    → IsPair more_keys more_values (length more_keys) column point)
    → AreTouchedTo sel marks (point + 1) more_keys more_values
touched_more sel marks point keys values more_keys more_values before pairs kept here = record {
  pairs = pairs;
  each = λ x column low there marked affected. elim (cases_lt x point) [
    | inl less ↦ kept column x (before.each x column less there marked affected)
    | inr past ↦
        let same : point ≡ x = omega (arith, low, past) in
        subst (λ p. IsPair more_keys more_values (length more_keys) column p) same
        (here column there marked (subst (λ p. IsColumnAffected sel p column) (sym same) affected))
  ];
}

pub dependent_more : (sel : Selection) (marks : List Bool) (column : ℕ) (keys values more_keys more_values : List ℕ)
    → AreDependentTo sel marks column keys values
    → ArePairs (length sel.program.variable_names) (column_count sel) more_keys more_values → KeepsPairs keys values more_keys more_values
    → ((variable : ℕ) → variable < length sel.program.variable_names → IsMarked marks column → column_depends sel variable column ≡ true
    → IsPair more_keys more_values (length more_keys) variable column)
    → AreDependentTo sel marks (column + 1) more_keys more_values
dependent_more sel marks column keys values more_keys more_values before pairs kept here = record {
  pairs = pairs;
  each = λ variable c there low marked depends. elim (cases_lt c column) [
    | inl less ↦ kept variable c (before.each variable c there less marked depends)
    | inr past ↦
        let same : column ≡ c = omega (arith, low, past) in
        subst (λ n. IsPair more_keys more_values (length more_keys) variable n) same
        (here variable there (subst (IsMarked marks) (sym same) marked) (subst (λ n. column_depends sel variable n ≡ true) (sym same) depends))
  ];
}
