use Rattle.std.proofs.Common.{◌≡◌, ◌⊎◌, ◌<◌, ◌&&◌, ◌||◌, ℕ, Bool, true, false, nat_eq, slice_index, inl, inr, refl, sym, ap, ◌∙◌, eq-eqb, arith}
use Rattle.std.proofs.lemmas.Bool.{cases_lt}
use Rattle.std.proofs.lemmas.Grind.{common_steps}
use Rattle.bit_rows.specs.Words.{has_bit}
use Rattle.bit_rows.proofs.words.WordBits.{has_bit-zero}
use Rattle.gen_kill.specs.Selections.{column_boundary}
use Rattle.flow_regions.proofs.effects.boundary_of.Goals as goal

-- the bit of a number, where it is that number and where it is not
here : (was wanted same : Bool) → was ≡ false → same ≡ true → (was || (wanted && same)) ≡ wanted
here false true true none is = refl
here false false true none is = refl
here true _ _ none is = absurd (cc none)
here _ _ false none is = absurd (cc is)

elsewhere : (was wanted same : Bool) → same ≡ false → (was || (wanted && same)) ≡ was
elsewhere true _ false is = refl
elsewhere false true false is = refl
elsewhere false false false is = refl
elsewhere _ _ true is = absurd (cc is)

differs : (k n : ℕ) → (k < n) ⊎ (n < k) → nat_eq k n ≡ false
differs k n (inl less) = grind (arith, common_steps)
differs k n (inr more) = grind (arith, common_steps)

pub loop-number-init : goal.loop-number-init
loop-number-init c = record {
  told = λ k none. absurd (omega (arith, none));
  blank = λ k small past. has_bit-zero k;
}

pub loop-number-preserved : goal.loop-number-preserved
loop-number-preserved c =
    let n = c.loop-number.number in
    let low : n < 64 = omega (arith, c.loop-number-test.true, c.requires.few) in
    record {
      told = λ k under. elim (cases_lt k n) [
        | inl less ↦ c.with_bit-word.ensures k (omega (arith, less, low))
            ∙ (elsewhere (has_bit c.loop-number.word k) _ (nat_eq k n) (differs k n (inl less)) ∙ c.loop-number.invariant.told k less)
        | inr past ↦
            let same : k ≡ n = omega (arith, under, past) in
            c.with_bit-word.ensures k (omega (arith, same, low))
            ∙ (here (has_bit c.loop-number.word k) _ (nat_eq k n) (c.loop-number.invariant.blank k (omega (arith, same, low)) past) (eq-eqb k n same)
            ∙ (c.in_boundary.ensures ∙ ap (λ i. column_boundary c.args.problem.now (slice_index c.args.columns.now i)) (sym same)))
      ];
      blank = λ k small past.
          c.with_bit-word.ensures k small ∙ (elsewhere (has_bit c.loop-number.word k) _ (nat_eq k n) (differs k n (inr (omega (arith, past))))
          ∙ c.loop-number.invariant.blank k small (omega (arith, past)));
    }
