use Rattle.std.proofs.Common.{◌≡◌, ◌+◌, ◌*◌, ◌/◌, ◌%◌, ℕ, List, length, get_or, replicate, vec_len, inl, inr, ap, ◌∙◌, arith}
use Rattle.std.proofs.lemmas.Bool.{cases_lt}
use Rattle.std.proofs.lemmas.List.{get_or-replicate, get_or_past, length-replicate}
use Rattle.bit_rows.specs.Words.{has_bit}
use Rattle.bit_rows.proofs.words.WordBits.{has_bit-zero}
use Rattle.gen_kill.proofs.bit_table.BitTable.clear.Goals as goal

zero_at : (words : List ℕ) (n : ℕ) → words ≡ replicate n 0 → (i : ℕ) → get_or words i 0 ≡ 0
zero_at words n is i = elim (cases_lt i n) [
  | inl low ↦ ap (λ ws. get_or ws i 0) is ∙ get_or-replicate n i 0 0 low
  | inr past ↦ let same : length words ≡ n = ap length is ∙ length-replicate n 0 in get_or_past words i 0 (omega (arith, past, same))
]

pub returns-clause-bits : goal.returns-clause-bits
returns-clause-bits c r b =
    ap (λ w. has_bit w (b % 64))
    (zero_at c.fill.new.self.items (vec_len c.args.self.now.words) (c.fill.ensures.items (λ y same. same)) (r * c.args.self.now.width + b / 64))
    ∙ has_bit-zero (b % 64)
