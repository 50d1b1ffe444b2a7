-- Words of columns that a statement generates or kills
use Rattle.std.proofs.Common.{◌≡◌, ℕ, ◌+◌, ◌*◌, ◌<◌, false, option_map, unwrap_or, nat_lt, bit_and, sym, ap₂, ◌∙◌}
use Rattle.bit_rows.specs.Words.{has_bit}
use Rattle.flow_graph.specs.Problems.{IsWordOfTest}
use Rattle.gen_kill.specs.Selections.{Selection, bit_of, column_count, column_gens, column_kills}
use Rattle.gen_kill.specs.code.Effects.{IsColumnEffect, column_depends, effect_owns, gen_from, kill_from, owns, touches}
use Rattle.gen_kill.specs.declared.effect.Effect.{Effect}
use Rattle.gen_kill.proofs.bits.EffectWords.{touched_column}
use Rattle.gen_kill.proofs.bits.MayWords.{is_word, may_gens_are, may_kills_are}

-- what a statement's own columns and those that it touches make of its words
module _ (s : Selection) (point word : ℕ) (e : Effect) (known : IsColumnEffect s point e) (own touched value full : ℕ)
    (owned : (k : ℕ) → k < 64 → has_bit own k ≡ effect_owns e (64 * word + k))
    (touching : (k : ℕ) → k < 64 → 64 * word + k < column_count s
    → has_bit touched k ≡ unwrap_or (option_map (λ x. column_depends s x (64 * word + k)) e.written) false)
    (limit : (k : ℕ) → k < 64 → has_bit full k ≡ nat_lt (64 * word + k) (column_count s)) where
  is_owned : (k : ℕ) → k < 64 → 64 * word + k < column_count s → has_bit own k ≡ owns s.program s.analysis point (bit_of s (64 * word + k))
  is_owned k within below = owned k within ∙ known.own (64 * word + k) below

  is_touched : (k : ℕ) → k < 64 → 64 * word + k < column_count s → has_bit touched k ≡ touches s.program s.analysis point (bit_of s (64 * word + k))
  is_touched k within below = touching k within below ∙ touched_column s point (64 * word + k) e known

  pub word_of_gens : ((k : ℕ) → k < 64 → has_bit value k ≡ gen_from s.analysis (has_bit own k) (has_bit touched k))
      → IsWordOfTest (column_gens s point) (column_count s) word (bit_and value full)
  word_of_gens made = is_word (column_gens s point) (column_count s) word value full
      (λ k within below.
      made k within
      ∙ ap₂ (gen_from s.analysis) (is_owned k within below) (is_touched k within below)
      ∙ sym (may_gens_are s.program s.analysis point (bit_of s (64 * word + k))))
      limit

  pub word_of_kills : ((k : ℕ) → k < 64 → has_bit value k ≡ kill_from s.analysis (has_bit own k) (has_bit touched k))
      → IsWordOfTest (column_kills s point) (column_count s) word (bit_and value full)
  word_of_kills made = is_word (column_kills s point) (column_count s) word value full
      (λ k within below.
      made k within
      ∙ ap₂ (kill_from s.analysis) (is_owned k within below) (is_touched k within below)
      ∙ sym (may_kills_are s.program s.analysis point (bit_of s (64 * word + k))))
      limit
