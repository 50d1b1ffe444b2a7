use Rattle.std.proofs.Common.{◌≡◌, ◌<◌, ◌*◌, ◌%◌, ◌^◌, ℕ, Bool, ◌&&◌, ◌||◌, nat_eq, sym, ap, subst, inl, inr, refl, ◌∙◌}
use Rattle.std.specs.Prelude.{bit_or}
use Rattle.std.proofs.lemmas.Bool.{cases_eq, eq-eqb, ne_eqb}
use Rattle.bit_rows.specs.Words.{has_bit}
use Rattle.bit_rows.proofs.words.WordBits.{has_bit-or, has_bit-shifted_other, has_bit-shifted_same}
use Rattle.flow_regions.proofs.effects.with_bit.Goals as goal

one_bit : (place b : ℕ) → place < 64 → has_bit (1 * 2 ^ place % 2 ^ 64) b ≡ nat_eq b place
one_bit place b small = elim (cases_eq b place) [
  | inl same ↦ subst (λ n. has_bit (1 * 2 ^ place % 2 ^ 64) n ≡ nat_eq n place) (sym same) (has_bit-shifted_same place small ∙ sym (eq-eqb place place refl))
  | inr other ↦ has_bit-shifted_other place b small other ∙ sym (ne_eqb b place other)
]

pub returns-then-wanted : goal.returns-then-wanted
returns-then-wanted c b small =
    subst (λ (t : Bool). has_bit (bit_or c.args.word (1 * 2 ^ c.args.bit % 2 ^ 64)) b ≡ (has_bit c.args.word b || (t && nat_eq b c.args.bit)))
    (sym c.if-wanted.true)
    (has_bit-or c.args.word (1 * 2 ^ c.args.bit % 2 ^ 64) b ∙ ap (λ t. has_bit c.args.word b || t) (one_bit c.args.bit b c.requires))
