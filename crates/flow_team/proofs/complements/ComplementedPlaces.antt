-- Words whose places are complemented.
use Rattle.std.proofs.Common.{◌≡◌, ◌↔◌, ℕ, zero, suc, ◌+◌, ◌%◌, ◌<◌, ◌≤◌, inl, inr, Bool, true, false, not, ◌&&◌, nat_lt, eqb}
use Rattle.std.proofs.Common.{refl, sym, ap, subst, ◌∙◌, arith, true≢false}
use Rattle.std.specs.Prelude.{bit_xor}
use Rattle.std.specs.Int.{bit_at}
use Rattle.std.proofs.lemmas.Bool.{cases_lt, lt-ltb, le-ltb}
use Rattle.std.proofs.lemmas.Nat.Bits.{bit_at_xor, bit_at-lt}
use Rattle.bit_rows.specs.Words.{has_bit}
use Rattle.flow_team.specs.code.Complements.{complemented}

odd : (x y : ℕ) → x < 2 → y < 2 → eqb ((x + y) % 2) 1 ≡ complemented (eqb y 1) (eqb x 1)
odd zero zero p q = refl
odd zero (suc zero) p q = refl
odd (suc zero) zero p q = refl
odd (suc zero) (suc zero) p q = refl
odd zero (suc (suc y)) p q = absurd (omega (arith, q))
odd (suc zero) (suc (suc y)) p q = absurd (omega (arith, q))
odd (suc (suc x)) y p q = absurd (omega (arith, p))

-- a place of `a ^ b` is that of a, complemented where b has it
pub has_bit-xor : (a b i : ℕ) → has_bit (bit_xor a b) i ≡ complemented (has_bit b i) (has_bit a i)
unfolding has_bit
has_bit-xor a b i = ap (λ x. eqb x 1) (bit_at_xor a b i) ∙ odd (bit_at a i) (bit_at b i) (bit_at-lt a i) (bit_at-lt b i)

-- What a complemented place tells: whether a bit of a table is there, which is what some path has, or for a must analysis what none has.
module _ (Table Some : Type 0) (b bits : ℕ) where
  may_place : (set flips : Bool) → (Table ↔ Some) → flips ≡ false → (set ≡ true) ↔ ((0 ≤ b) × (b < bits) × Some)
      → (complemented flips set ≡ true) ↔ ((b < bits) × Table)
  may_place set flips law is solved = subst (λ (t : Bool). (complemented t set ≡ true) ↔ ((b < bits) × Table)) (sym is) (
    (λ has. let there = solved.0 has in (there.1, law.1 there.2)),
    (λ has. solved.1 (omega arith, has.0, law.0 has.1)),
  )

  inside : (set : Bool) → (Table ↔ (¬ Some)) → b < bits → (set ≡ true) ↔ ((0 ≤ b) × (b < bits) × Some) → (not set ≡ true) ↔ ((b < bits) × Table)
  inside true law there solved = ((λ has. absurd (true≢false (sym has))), (λ has. absurd (law.0 has.1 ((solved.0 refl).2))))
  inside false law there solved = ((λ has. (there, law.1 (λ some. true≢false (sym (solved.1 (omega arith, there, some)))))), (λ has. refl))

  must_place : (set flips : Bool) → (Table ↔ (¬ Some)) → flips ≡ nat_lt b bits → (set ≡ true) ↔ ((0 ≤ b) × (b < bits) × Some)
      → (complemented flips set ≡ true) ↔ ((b < bits) × Table)
  must_place set flips law is solved = elim (cases_lt b bits) [
    | inl there ↦ subst (λ (t : Bool). (complemented t set ≡ true) ↔ ((b < bits) × Table)) (sym (is ∙ lt-ltb b bits there))
        (inside set law there solved)
    | inr past ↦ subst (λ (t : Bool). (complemented t set ≡ true) ↔ ((b < bits) × Table)) (sym (is ∙ le-ltb b bits past)) (
      (λ has. absurd (omega (arith, past, (solved.0 has).1))),
      (λ has. absurd (omega (arith, past, has.0))),
    )
  ]

  pub complemented_place : (must set flips : Bool) → (must ≡ false → Table ↔ Some) → (must ≡ true → Table ↔ (¬ Some))
      → flips ≡ (must && nat_lt b bits)
      → (set ≡ true) ↔ ((0 ≤ b) × (b < bits) × Some) → (complemented flips set ≡ true) ↔ ((b < bits) × Table)
  complemented_place true set flips may must is solved = must_place set flips (must refl) is solved
  complemented_place false set flips may must is solved = may_place set flips (may refl) is solved
