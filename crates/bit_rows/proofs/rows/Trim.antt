-- The masks at both ends of a row's words.
use Rattle.std.proofs.Common.{◌≡◌, ℕ, ◌+◌, ◌/◌, ◌<◌, Bool, true, ◌&&◌, List, length, get_or, set, sym, ap, ap₂, ◌∙◌, inl, inr, bit_and}
use Rattle.std.proofs.Common.{arith}
use Rattle.std.proofs.lemmas.List.{get_or-set_same, get_or-set_other, length-set}
use Rattle.std.proofs.lemmas.Bool.{cases_eq}
use Rattle.std.proofs.Math.Bool.{and-true}
use Rattle.bit_rows.specs.Words.{has_bit, word_count, range_mask, IsTrimmed}
use Rattle.bit_rows.proofs.words.WordBits.{has_bit-and, has_bit-mask_inside}

pub keep : (x y : Bool) → y ≡ true → x ≡ (x && y)
keep x y e = sym (ap (λ t. x && t) e ∙ and-true x)

-- the first word alone
pub trim_one : (lo hi : ℕ) (words : List ℕ) (mask : ℕ) → length words ≡ 1 → mask ≡ range_mask lo hi (lo / 64)
    → IsTrimmed lo hi words (set words 0 (bit_and (get_or words 0 0) mask))
trim_one lo hi words mask single is_mask k i present within =
    let only : k ≡ 0 = omega (arith, present, length-set words 0 (bit_and (get_or words 0 0) mask), single) in
    let here : lo / 64 ≡ lo / 64 + k = omega arith in
    ap (λ j. has_bit (get_or (set words 0 (bit_and (get_or words 0 0) mask)) j 0) i) only
    ∙ ap (λ word. has_bit word i) (get_or-set_same words 0 (bit_and (get_or words 0 0) mask) 0 (omega arith))
    ∙ has_bit-and (get_or words 0 0) mask i
    ∙ ap₂ (λ (j m : ℕ). has_bit (get_or words j 0) i && has_bit m i) (sym only) (is_mask ∙ ap (range_mask lo hi) here)

-- the first word and the last: those between lie in the range as a whole
module _ (lo hi : ℕ) (words : List ℕ) (last first_mask last_mask : ℕ) (count : length words ≡ word_count lo hi) (at_end : length words ≡ last + 1)
    (several : 0 < last) (is_first : first_mask ≡ range_mask lo hi (lo / 64)) (is_last : last_mask ≡ range_mask lo hi (lo / 64 + last)) where
  pub trim_both : IsTrimmed lo hi words (set (set words 0 (bit_and (get_or words 0 0) first_mask)) last
      (bit_and (get_or (set words 0 (bit_and (get_or words 0 0) first_mask)) last 0) last_mask))
  trim_both k i present within =
      let x : ℕ = bit_and (get_or words 0 0) first_mask in
      let y : ℕ = bit_and (get_or (set words 0 (bit_and (get_or words 0 0) first_mask)) last 0) last_mask in
      let length_once = length-set words 0 x in
      let length_twice = length-set (set words 0 x) last y in
      elim (cases_eq k last) [
        | inl end ↦
            let other : last ≡ 0 → ⊥ = omega arith in
            ap (λ j. has_bit (get_or (set (set words 0 x) last y) j 0) i) end
            ∙ ap (λ word. has_bit word i) (get_or-set_same (set words 0 x) last y 0 (omega arith))
            ∙ has_bit-and (get_or (set words 0 x) last 0) last_mask i
            ∙ ap₂ (λ (w m : ℕ). has_bit w i && has_bit m i) (get_or-set_other words 0 last x 0 other) is_last
            ∙ ap (λ j. has_bit (get_or words j 0) i && has_bit (range_mask lo hi (lo / 64 + j)) i) (sym end)
        | inr not_end ↦
            ap (λ word. has_bit word i) (get_or-set_other (set words 0 x) last k y 0 not_end)
            ∙ elim (cases_eq k 0) [
              | inl start ↦
                  let here : lo / 64 ≡ lo / 64 + k = omega arith in
                  ap (λ j. has_bit (get_or (set words 0 x) j 0) i) start
                  ∙ ap (λ word. has_bit word i) (get_or-set_same words 0 x 0 (omega arith))
                  ∙ has_bit-and (get_or words 0 0) first_mask i
                  ∙ ap₂ (λ (j m : ℕ). has_bit (get_or words j 0) i && has_bit m i) (sym start) (is_first ∙ ap (range_mask lo hi) here)
              | inr inner ↦
                  ap (λ word. has_bit word i) (get_or-set_other words 0 k x 0 inner)
                  ∙ keep (has_bit (get_or words k 0) i) (has_bit (range_mask lo hi (lo / 64 + k)) i)
                  (has_bit-mask_inside lo hi (lo / 64 + k) i within (omega arith) (omega (arith, count)))
            ]
      ]
