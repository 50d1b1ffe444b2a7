-- Bits that are put for the points of a list
use Rattle.std.proofs.Common.{◌≡◌, ◌<◌, ◌≤◌, ◌+◌, ◌&&◌, ◌||◌, ℕ, Bool, true, false, List, length, slice_index, nat_eq, inl, inr, refl, sym, subst, ◌∙◌, eqb-true, arith}
use Rattle.std.proofs.lemmas.Bool.{cases_lt, eq-eqb, or_cases, or_left, or_right}
use Rattle.bit_rows.specs.Words.{has_bit}
use Rattle.gen_kill.specs.Selections.{Selection}
use Rattle.flow_regions.specs.code.Effects.{ArePut, IsPut, has_effect}
use Rattle.flow_regions.specs.declared.effects.Does.{Does}

both : (a b : Bool) → (a && b) ≡ true → (a ≡ true) × (b ≡ true)
both true b is = (refl, is)
both false b is = absurd (cc is)

and_true : (a b : Bool) → a ≡ true → b ≡ true → (a && b) ≡ true
and_true true b one other = other
and_true false b one other = one

put_later : (selection : Selection) (does : Does) (column : ℕ) (listed : List ℕ) (n m : ℕ) (places : List ℕ) (place : ℕ) → n ≤ m
    → IsPut selection does column listed n places place → IsPut selection does column listed m places place
put_later selection does column listed n m places place more put = record {
  number = put.number;
  low = omega (arith, put.low, more);
  there = put.there;
  has = put.has;
}

pub put_more : (selection : Selection) (does : Does) (column bit : ℕ) (listed : List ℕ) (n : ℕ) (places old words new : List ℕ) (wanted : Bool) → bit < 64
    → length words ≡ length old → wanted ≡ has_effect selection does (slice_index listed n) column
    → ((y b : ℕ) → b < 64 → slice_index places (slice_index listed n) < length words → has_bit (slice_index new y) b
    ≡ (has_bit (slice_index words y) b || (nat_eq y (slice_index places (slice_index listed n)) && (wanted && nat_eq b bit))))
    → (length words ≤ slice_index places (slice_index listed n) → new ≡ words)
    → ArePut selection does column bit listed n places old words → ArePut selection does column bit listed (n + 1) places old new
put_more selection does column bit listed n places old words new wanted small same wanted_is bits past put =
    let place : ℕ = slice_index places (slice_index listed n) in
    let more : n ≤ n + 1 = omega arith in
    elim (cases_lt place (length words)) [
      | inl there ↦ record {
        kept = λ y b low had. bits y b low there ∙ or_left (has_bit (slice_index words y) b) _ (put.kept y b low had);
        only = λ y b low has. elim (or_cases (has_bit (slice_index words y) b) (nat_eq y place && (wanted && nat_eq b bit)) (sym (bits y b low there) ∙ has)) [
          | inl was ↦ elim (put.only y b low was) [
            | inl older ↦ inl older
            | inr one ↦ inr (one.0, put_later selection does column listed n (n + 1) places y more one.1)
          ]
          | inr now ↦
              let parts = both (nat_eq y place) (wanted && nat_eq b bit) now in
              let others = both wanted (nat_eq b bit) parts.1 in
              inr (
                eqb-true b bit others.1,
                record {
                  number = n;
                  low = omega arith;
                  there = sym (eqb-true y place parts.0);
                  has = sym wanted_is ∙ others.0;
                },
              )
        ];
        here = λ j low within has. elim (cases_lt j n) [
          | inl less ↦ bits _ bit small there ∙ or_left (has_bit (slice_index words (slice_index places (slice_index listed j))) bit) _ (put.here j less within has)
          | inr next ↦
              let one : n ≡ j = omega (arith, low, next) in
              subst (λ i. has_bit (slice_index new (slice_index places (slice_index listed i))) bit ≡ true) one
              (bits place bit small there ∙ or_right (has_bit (slice_index words place) bit) (nat_eq place place && (wanted && nat_eq bit bit))
              (and_true _ _ (eq-eqb place place refl) (and_true wanted _
              (wanted_is ∙ subst (λ i. has_effect selection does (slice_index listed i) column ≡ true) (sym one) has) (eq-eqb bit bit refl))))
        ];
      }
      | inr beyond ↦
          let still = past beyond in
          record {
            kept = λ y b low had. subst (λ (w : List ℕ). has_bit (slice_index w y) b ≡ true) (sym still) (put.kept y b low had);
            only = λ y b low has. elim (put.only y b low (subst (λ (w : List ℕ). has_bit (slice_index w y) b ≡ true) still has)) [
              | inl older ↦ inl older
              | inr one ↦ inr (one.0, put_later selection does column listed n (n + 1) places y more one.1)
            ];
            here = λ j low within has. elim (cases_lt j n) [
              | inl less ↦ subst (λ (w : List ℕ). has_bit (slice_index w (slice_index places (slice_index listed j))) bit ≡ true) (sym still)
                  (put.here j less within has)
              | inr next ↦
                  let one : n ≡ j = omega (arith, low, next) in
                  let far : length words ≤ slice_index places (slice_index listed j) =
                  subst (λ i. length words ≤ slice_index places (slice_index listed i)) one beyond in
                  absurd (omega (arith, far, within, same))
            ];
          }
    ]
