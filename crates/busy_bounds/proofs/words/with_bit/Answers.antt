use Rattle.std.proofs.Common.{◌≡◌, ◌∙◌, ℕ, ◌*◌, ◌%◌, ◌^◌, ◌<◌, ◌||◌, nat_eq, sym, ap, eq-eqb, ne_eqb}
use native.Mathlib.Decide.{ℕ_discrete}
use mathlib.Core.Logic.{dite}
use Rattle.bit_rows.proofs.words.WordBits.{has_bit-or, has_bit-shifted_other, has_bit-shifted_same}
use Rattle.bit_rows.specs.Words.{has_bit}
use Rattle.busy_bounds.proofs.words.with_bit.Goals as goal

one_bit : (place k : ℕ) → place < 64 → has_bit (1 * 2 ^ place % 2 ^ 64) k ≡ nat_eq k place
one_bit place k small = dite (ℕ_discrete k place)
    (λ same.
    ap (has_bit (1 * 2 ^ place % 2 ^ 64)) same ∙ has_bit-shifted_same place small ∙ sym (eq-eqb k place same))
    (λ other. has_bit-shifted_other place k small other ∙ sym (ne_eqb k place other))

pub returns : goal.returns
returns c k =
    has_bit-or c.args.word (1 * 2 ^ c.args.place % 2 ^ 64) k ∙ ap (λ b. has_bit c.args.word k || b) (one_bit c.args.place k c.requires)
