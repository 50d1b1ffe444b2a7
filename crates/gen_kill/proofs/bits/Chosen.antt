-- Chosen bits and their columns
use Rattle.std.proofs.Common.{◌≡◌, ℕ, zero, suc, ◌<◌, ◌≤◌, false, List, length, get_or, Option, Some, None, option_map, unwrap_or}
use Rattle.std.proofs.Common.{nat_eq, inl, inr, refl, sym, subst, ap, ◌∙◌, arith, ne_eqb, eq-eqb}
use Rattle.std.proofs.lemmas.Bool.{cases_eq}
use Rattle.flow_graph.specs.Universes.{bits}
use Rattle.flow_graph.specs.declared.analysis.Analysis.{Analysis}
use Rattle.gen_kill.specs.Selections.{AreChosen, bit_in}
use Rattle.gen_kill.specs.code.Columns.{AreColumnsOf, HasColumn, IsChosenOf}
use Rattle.tac_program.specs.Programs.{Program}

-- numbers that rise are each at least their place
at_least : (chosen : List ℕ) → ((i j : ℕ) → i < j → j < length chosen → get_or chosen i 0 < get_or chosen j 0)
    → (i : ℕ) → i < length chosen → i ≤ get_or chosen i 0
at_least chosen rising zero there = omega arith
at_least chosen rising (suc i) there =
    let before = at_least chosen rising i (omega arith) in
    let more = rising i (suc i) (omega arith) there in
    omega arith

pub few_chosen : (program : Program) (analysis : Analysis) (chosen : List ℕ) → AreChosen program analysis chosen → length chosen ≤ bits program analysis
few_chosen program analysis chosen are = by_length (length chosen) refl
  where
    by_length : (n : ℕ) → length chosen ≡ n → length chosen ≤ bits program analysis
    by_length zero is = omega arith
    by_length (suc n) is =
        let last : n < length chosen = omega arith in
        let below = are.within n last in
        let high = at_least chosen are.rising n last in
        omega arith

pub count_within : (program : Program) (analysis : Analysis) (chosen : Option (List ℕ)) → IsChosenOf program analysis chosen
    → unwrap_or (option_map length chosen) (bits program analysis) ≤ bits program analysis
count_within program analysis None are = omega arith
count_within program analysis (Some list) are = few_chosen program analysis list are

pub bit_within : (program : Program) (analysis : Analysis) (chosen : Option (List ℕ)) → IsChosenOf program analysis chosen
    → (column : ℕ) → column < unwrap_or (option_map length chosen) (bits program analysis) → bit_in chosen column < bits program analysis
bit_within program analysis None are column there = there
bit_within program analysis (Some list) are column there = are.within column there

pub has_column : (chosen : Option (List ℕ)) (n column : ℕ) → column < unwrap_or (option_map length chosen) n → HasColumn chosen column
has_column None n column there = tt
has_column (Some list) n column there = there

-- Two tests for numbers that are the same together.
marked_same : (a b c d : ℕ) → (a ≡ b → c ≡ d) → (c ≡ d → a ≡ b) → nat_eq a b ≡ nat_eq c d
marked_same a b c d there back = elim (cases_eq a b) [
  | inl same ↦ eq-eqb a b same ∙ sym (eq-eqb c d (there same))
  | inr other ↦ ne_eqb a b other ∙ sym (ne_eqb c d (λ same. other (back same)))
]

module _ (list columns : List ℕ) (are : AreColumnsOf list columns) (column bit : ℕ)
    (at : bit < length columns → column ≡ get_or columns bit 0) (other : ℕ) (there : other < length list) where
  found_at : get_or list other 0 ≡ bit → other ≡ column
  found_at same =
      let within : bit < length columns = subst (λ n. n < length columns) same ((are.each other there).0) in
      sym ((are.each other there).1) ∙ ap (λ n. get_or columns n 0) same ∙ sym (at within)

  -- a column that stands for the bit is the only one
  pub column_found : get_or list column 0 ≡ bit → nat_eq other column ≡ nat_eq (get_or list other 0) bit
  column_found is = marked_same other column (get_or list other 0) bit (λ same. ap (λ n. get_or list n 0) same ∙ is) found_at

  -- where the one that was looked up does not, none does
  pub column_missing : ¬ ((column < length list) × (get_or list column 0 ≡ bit)) → false ≡ nat_eq (get_or list other 0) bit
  column_missing none = sym (ne_eqb (get_or list other 0) bit (λ same.
      let is = found_at same in
      none (subst (λ n. n < length list) is there, ap (λ n. get_or list n 0) (sym is) ∙ same)))
