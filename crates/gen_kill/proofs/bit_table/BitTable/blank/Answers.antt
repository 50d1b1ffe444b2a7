use Rattle.std.proofs.Common.{rules, ◌≡◌, ℕ, ◌+◌, ◌*◌, ◌/◌, ◌%◌, ◌<◌, ◌≤◌, ◌⊎◌, vec_len, List, length, get_or, inl, inr, refl, sym, ap, ◌∙◌, arith}
use Rattle.std.proofs.lemmas.Bool.{cases_lt}
use Rattle.std.proofs.lemmas.List.{get_or_past}
use Rattle.bit_rows.specs.Words.{has_bit}
use Rattle.bit_rows.proofs.words.WordBits.{has_bit-zero}
use Rattle.gen_kill.proofs.bit_table.BitTable.blank.Goals as goal

pub returns : goal.returns
returns c =
    let new : List ℕ = c.resize.new.self.items in
    let width : ℕ = c.words_for-width.result in
    let new_len : vec_len c.resize.new.self ≡ length new = search rules in
    let count : length new ≡ c.args.rows * width = sym new_len ∙ c.in_ok-resize.ensures.len in
    let by_index = c.in_ok-resize.ensures.by_index in
    let zero_at : (i : ℕ) → (i < length new) ⊎ (length new ≤ i) → get_or new i 0 ≡ 0 = λ i where_it. elim where_it [
      | inl below ↦ by_index.1 i 0 refl (omega (arith, c.new-words.ensures.len)) (omega (arith, count))
      | inr past ↦ get_or_past new i 0 past
    ] in
    record {
      width_is = omega arith;
      count = count;
      clear = λ row bit. ap (λ v. has_bit v (bit % 64)) (zero_at (row * width + bit / 64) (cases_lt (row * width + bit / 64) (length new)))
          ∙ has_bit-zero (bit % 64);
    }
