-- How words are filled point by point, and word by word.
use Rattle.std.proofs.Common.{◌≡◌, ℕ, ◌+◌, ◌*◌, ◌<◌, ◌≤◌, inl, inr, List, length, get_or, refl, sym, ap, subst, ◌∙◌, arith, mul-le-mul_right}
use Rattle.std.specs.Prelude.{slice_set, ◌≢◌}
use Rattle.std.proofs.lemmas.Bool.{cases_eq, cases_lt}
use Rattle.std.proofs.lemmas.List.{get_or-set_same, get_or-set_other, length-set}
use Rattle.std.proofs.Math.Arith.{digits_lt}
use Rattle.flow_kept.specs.code.Filled.{AreFilled, IsRowFilled}

pub no_word : (tells : ℕ → ℕ → Type 0) (at first start : ℕ) (words : List ℕ) → IsRowFilled tells at first start start words words
no_word tells at first start words = record {
  size = refl;
  filled = λ w from until. absurd (omega (arith, from, until));
  kept = λ i outside. refl;
}

pub one_word : (tells : ℕ → ℕ → Type 0) (at first start word i value : ℕ) (old mid : List ℕ) → IsRowFilled tells at first start word old mid
    → first ≤ word → start ≤ word → first + i ≡ at + word → i < length mid → tells word value
    → IsRowFilled tells at first start (word + 1) old (slice_set mid i value)
one_word tells at first start word i value old mid before low from place there told = record {
  size = length-set mid i value ∙ before.size;
  filled = λ w low_w high. elim (cases_eq (first + w) word) [
    | inl same ↦
        let here : at + w ≡ i = omega (arith, same, place) in
        subst (λ n. tells n (get_or (slice_set mid i value) (at + w) 0)) (sym same)
        (subst (tells word) (sym (ap (λ n. get_or (slice_set mid i value) n 0) here ∙ get_or-set_same mid i value 0 there)) told)
    | inr apart ↦
        let other : at + w ≢ i = λ is. apart (omega (arith, is, place)) in
        subst (tells (first + w)) (sym (get_or-set_other mid i (at + w) value 0 other)) (before.filled w low_w (omega (arith, high, apart)))
  ];
  kept = λ j outside.
      let other : j ≢ i = λ is. elim outside [ inl below ↦ omega (arith, below, is, place, from) | inr above ↦ omega (arith, above, is, place) ] in
      get_or-set_other mid i j value 0 other
      ∙ before.kept j (elim outside [ inl below ↦ inl below | inr above ↦ inr (omega (arith, above)) ]);
}

pub no_point : (tells : ℕ → ℕ → ℕ → Type 0) (count first start end : ℕ) (words : List ℕ) → AreFilled tells 0 count first start end words words
no_point tells count first start end words = record {
  size = refl;
  filled = λ point w there. absurd (omega (arith, there));
  kept = λ point w small outside. refl;
}

pub one_point : (tells : ℕ → ℕ → ℕ → Type 0) (point count first start end : ℕ) (old mid new : List ℕ) → first ≤ start → end ≤ first + count
    → AreFilled tells point count first start end old mid → IsRowFilled (tells point) (point * count) first start end mid new
    → AreFilled tells (point + 1) count first start end old new
one_point tells point count first start end old mid new low high before row = record {
  size = row.size ∙ before.size;
  filled = λ p w there small from until. elim (cases_eq p point) [
    | inl same ↦ subst (λ n. tells n (first + w) (get_or new (n * count + w) 0)) (sym same) (row.filled w from until)
    | inr apart ↦
        let earlier : p < point = omega (arith, there, apart) in
        subst (tells p (first + w)) (sym (row.kept (p * count + w) (inl (omega (arith, digits_lt earlier small, low)))))
        (before.filled p w earlier small from until)
  ];
  kept = λ p w small outside. elim (cases_lt p point) [
    | inl earlier ↦
        row.kept (p * count + w) (inl (omega (arith, digits_lt earlier small, low)))
        ∙ before.kept p w small (elim outside [ inl past ↦ absurd (omega (arith, past, earlier)) | inr apart ↦ inr apart ])
    | inr later ↦ elim (cases_eq p point) [
      | inl same ↦ subst (λ n. get_or new (n * count + w) 0 ≡ get_or old (n * count + w) 0) (sym same)
          (row.kept (point * count + w) (elim outside [
            | inl past ↦ absurd (omega (arith, past, same))
            | inr apart ↦ elim apart [ inl below ↦ inl (omega (arith, below)) | inr above ↦ inr (omega (arith, above)) ]
          ])
          ∙ before.kept point w small (inl (omega arith)))
      | inr apart ↦
          let next : point + 1 ≤ p = omega (arith, later, apart) in
          row.kept (p * count + w) (inr (omega (arith, high, mul-le-mul_right count next)))
          ∙ before.kept p w small (inl later)
    ]
  ];
}

-- words that are filled further
pub filled_on : (tells : ℕ → ℕ → ℕ → Type 0) (points count first start mid end : ℕ) (old now new : List ℕ) → start ≤ mid → mid ≤ end
    → AreFilled tells points count first start mid old now → AreFilled tells points count first mid end now new
    → AreFilled tells points count first start end old new
filled_on tells points count first start mid end old now new low high one two = record {
  size = two.size ∙ one.size;
  filled = λ p w there small from until. elim (cases_lt (first + w) mid) [
    | inl before ↦ subst (tells p (first + w)) (sym (two.kept p w small (inr (inl before)))) (one.filled p w there small from before)
    | inr after ↦ two.filled p w there small after until
  ];
  kept = λ p w small outside.
      two.kept p w small (elim outside [
        | inl past ↦ inl past
        | inr apart ↦ inr (elim apart [ inl below ↦ inl (omega (arith, below, low)) | inr above ↦ inr above ])
      ])
      ∙ one.kept p w small (elim outside [
        | inl past ↦ inl past
        | inr apart ↦ inr (elim apart [ inl below ↦ inl below | inr above ↦ inr (omega (arith, above, high)) ])
      ]);
}

-- words of which none is filled
pub no_group : (tells : ℕ → ℕ → ℕ → Type 0) (points count first start : ℕ) (words : List ℕ)
    → AreFilled tells points count first start start words words
no_group tells points count first start words = record {
  size = refl;
  filled = λ point w there small from until. absurd (omega (arith, from, until));
  kept = λ point w small outside. refl;
}
