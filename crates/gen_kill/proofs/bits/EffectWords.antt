-- In which words a statement generates or kills bits
use Rattle.std.proofs.Common.{◌≡◌, ◌∙◌, ◌⊎◌, ℕ, ◌+◌, ◌*◌, ◌/◌, ◌%◌, ◌<◌, Bool, true, false, ◌||◌, option_map, unwrap_or, List, length, inl, inr, refl}
use Rattle.std.proofs.Common.{sym, ap, bit_or, arith}
use Rattle.std.proofs.Math.Bool.{or-true}
use Rattle.std.proofs.lemmas.Bool.{or_cases, or_left, or_right}
use Rattle.bit_rows.specs.Words.{has_bit}
use Rattle.bit_rows.proofs.words.WordBits.{has_bit-or}
use Rattle.gen_kill.specs.code.BitTables.{table_has}
use Rattle.gen_kill.specs.Selections.{IsColumnAffected, Selection, bit_of, column_count}
use Rattle.gen_kill.specs.code.Effects.{AreDependentWords, IsColumnEffect, column_depends, depends, effect_owns, gen_from, kill_from, marks, owns, touches}
use Rattle.flow_graph.specs.declared.analysis.Analysis.TheVariants.{Reach, Live, Avail, Busy}
use Rattle.flow_graph.specs.declared.analysis.Analysis.{Analysis}
use Rattle.gen_kill.specs.declared.effect.Effect.{Effect}
use Rattle.gen_kill.proofs.bits.MayWords.{may_gens_are, may_kills_are}

-- what is generated or killed is the statement's own, or touched
generated_from : (analysis : Analysis) (own touched : Bool) → gen_from analysis own touched ≡ true → (own ≡ true) ⊎ (touched ≡ true)
generated_from Reach own touched is = inl is
generated_from Live own touched is = inl is
generated_from Avail own touched is = inr is
generated_from Busy own true is = inr refl
generated_from Busy own false is = inr is

killed_from : (analysis : Analysis) (own touched : Bool) → kill_from analysis own touched ≡ true → (own ≡ true) ⊎ (touched ≡ true)
killed_from Reach own true is = inr refl
killed_from Reach own false is = inr is
killed_from Live own touched is = inr is
killed_from Avail true touched is = inl refl
killed_from Avail false touched is = inl is
killed_from Busy own touched is = inl is

affected_from : (s : Selection) (point column : ℕ) → IsColumnAffected s point column
    → (owns s.program s.analysis point (bit_of s column) ≡ true) ⊎ (touches s.program s.analysis point (bit_of s column) ≡ true)
affected_from s point column (inl is) = generated_from s.analysis _ _ (sym (may_gens_are s.program s.analysis point (bit_of s column)) ∙ is)
affected_from s point column (inr is) = killed_from s.analysis _ _ (sym (may_kills_are s.program s.analysis point (bit_of s column)) ∙ is)

-- a bit that is set in one of two words is set in both together
set_left : (a b k : ℕ) → has_bit a k ≡ true → has_bit (bit_or a b) k ≡ true
set_left a b k is = has_bit-or a b k ∙ ap (λ t. t || has_bit b k) is

set_right : (a b k : ℕ) → has_bit b k ≡ true → has_bit (bit_or a b) k ≡ true
set_right a b k is = has_bit-or a b k ∙ ap (λ t. has_bit a k || t) is ∙ or-true (has_bit a k)

-- the word of a column that depends on a variable is marked
pub dependent_word : (s : Selection) (words : List ℕ) (width variable column result : ℕ)
    → AreDependentWords s words width
    → variable < length s.program.variable_names → column < column_count s → column_depends s variable column ≡ true
    → ((k : ℕ) → k < 64 → 0 < width → has_bit result k ≡ table_has words width variable (64 * 0 + k)) → has_bit result (column / 64 % 64) ≡ true
dependent_word s words width variable column result are there below depend is =
    let low : column / 64 % 64 < 64 = omega arith in
    let some : 0 < width = omega (arith, are.one) in
    is (column / 64 % 64) low some
    ∙ ap (table_has words width variable) (let e : 64 * 0 + column / 64 % 64 ≡ column / 64 % 64 = omega arith in e)
    ∙ are.each variable column there below depend

-- the columns that depend on what is written are those that the statement touches
pub touched_column : (s : Selection) (point column : ℕ) (e : Effect) → IsColumnEffect s point e
    → unwrap_or (option_map (λ x. column_depends s x column) e.written) false ≡ touches s.program s.analysis point (bit_of s column)
unfolding column_depends
touched_column s point column e known = ap (λ o. unwrap_or (option_map (λ x. depends s.program s.analysis x (bit_of s column)) o) false) known.written

-- what is generated or killed is among a statement's own columns, and those that depend on what it writes
pub affected_among : (s : Selection) (point column : ℕ) (e : Effect) → IsColumnEffect s point e → column < column_count s → IsColumnAffected s point column
    → (effect_owns e column || unwrap_or (option_map (λ x. column_depends s x column) e.written) false) ≡ true
affected_among s point column e effect below affected = elim (affected_from s point column affected) [
  | inl own ↦ or_left (effect_owns e column) _ (effect.own column below ∙ own)
  | inr is ↦ or_right (effect_owns e column) _ (touched_column s point column e effect ∙ is)
]

-- so is the word of a column that the statement generates or kills
pub affected_word : (s : Selection) (point column : ℕ) (e : Effect) (first second touched : ℕ)
    → IsColumnEffect s point e → column < column_count s
    → ((bit : ℕ) → marks e.first bit ≡ true → has_bit first (bit / 64 % 64) ≡ true)
    → ((bit : ℕ) → marks e.second bit ≡ true → has_bit second (bit / 64 % 64) ≡ true)
    → (unwrap_or (option_map (λ x. column_depends s x column) e.written) false ≡ true → has_bit touched (column / 64 % 64) ≡ true)
    → IsColumnAffected s point column
    → has_bit (bit_or (bit_or first second) touched) (column / 64 % 64) ≡ true
affected_word s point column e first second touched effect below firsts seconds touches_it affected =
    elim (affected_from s point column affected) [
      | inl own ↦ elim (or_cases (marks e.first column) (marks e.second column) (effect.own column below ∙ own)) [
        | inl is ↦ set_left (bit_or first second) touched (column / 64 % 64) (set_left first second (column / 64 % 64) (firsts column is))
        | inr is ↦ set_left (bit_or first second) touched (column / 64 % 64) (set_right first second (column / 64 % 64) (seconds column is))
      ]
      | inr is ↦ set_right (bit_or first second) touched (column / 64 % 64) (touches_it (touched_column s point column e effect ∙ is))
    ]
