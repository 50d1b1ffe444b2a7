-- Words of several columns
use Rattle.std.proofs.Common.{◌≡◌, ◌<◌, ◌+◌, ℕ, true, List, length, slice_index, inl, inr, sym, ap, subst, ◌∙◌, arith}
use Rattle.std.proofs.lemmas.Bool.{cases_lt}
use Rattle.bit_rows.specs.Words.{has_bit}
use Rattle.bit_rows.proofs.words.WordBits.{has_bit-zero}
use Rattle.flow_graph.specs.Points.{point_count}
use Rattle.gen_kill.specs.Selections.{IsColumnAffected, Selection}
use Rattle.flow_regions.specs.code.Effects.{ArePut, AreTold, has_effect}
use Rattle.flow_regions.specs.code.Lists.{AreLow}
use Rattle.flow_regions.specs.declared.effects.Does.{Does}
use Rattle.flow_regions.specs.declared.effects.Does.TheVariants.{Generates, Kills}

-- a statement that does it affects the column
pub affects : (selection : Selection) (does : Does) (x column : ℕ) → has_effect selection does x column ≡ true → IsColumnAffected selection x column
affects selection Generates x column has = inl has
affects selection Kills x column has = inr has

pub none_told : (selection : Selection) (does : Does) (columns places : List ℕ) (count : ℕ) (words : List ℕ)
    → ((y : ℕ) → slice_index words y ≡ 0) → AreTold selection does columns 0 places count words
none_told selection does columns places count words blank = record {
  complete = λ x k there low none has. absurd (omega (arith, none));
  sound = λ y k low has. absurd (cc (sym (has_bit-zero k) ∙ (ap (λ w. has_bit w k) (sym (blank y)) ∙ has)));
}

pub told_more : (selection : Selection) (does : Does) (columns : List ℕ) (n : ℕ) (places : List ℕ) (count : ℕ) (old new listed : List ℕ) → n < 64
    → AreLow (point_count selection.program) listed
    → ((x : ℕ) → x < point_count selection.program → IsColumnAffected selection x (slice_index columns n) → (j : ℕ) × (j < length listed) × (slice_index listed j ≡ x))
    → length old ≡ count → AreTold selection does columns n places count old
    → ArePut selection does (slice_index columns n) n listed (length listed) places old new → AreTold selection does columns (n + 1) places count new
told_more selection does columns n places count old new listed small low_listed all size told put = record {
  complete = λ x k there low under has. elim (cases_lt k n) [
    | inl less ↦ put.kept (slice_index places x) k (omega (arith, less, small)) (told.complete x k there low less has)
    | inr past ↦
        let one : n ≡ k = omega (arith, under, past) in
        let here = subst (λ i. has_effect selection does x (slice_index columns i) ≡ true) (sym one) has in
        let (j, within, read) = all x there (affects selection does x (slice_index columns n) here) in
        let same_place : slice_index places (slice_index listed j) ≡ slice_index places x = ap (slice_index places) read in
        subst (λ i. has_bit (slice_index new (slice_index places x)) i ≡ true) one
        (subst (λ y. has_bit (slice_index new y) n ≡ true) same_place
        (put.here j within (omega (arith, same_place, low, size)) (subst (λ y. has_effect selection does y (slice_index columns n) ≡ true) (sym read) here)))
  ];
  sound = λ y k low has. elim (put.only y k low has) [
    | inl was ↦ let before = told.sound y k low was in (omega (arith, before.0), before.1)
    | inr (same, one) ↦ (
      omega (arith, same),
      record {
        point = slice_index listed one.number;
        there = low_listed one.number one.low;
        at = one.there;
        has = subst (λ i. has_effect selection does (slice_index listed one.number) (slice_index columns i) ≡ true) (sym same) one.has;
      },
    )
  ];
}
