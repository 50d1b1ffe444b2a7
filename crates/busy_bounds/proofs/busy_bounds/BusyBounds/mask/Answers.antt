use Rattle.std.proofs.Common.{◌≡◌, ◌∙◌, ◌+◌, ◌*◌, ◌||◌, Bool, true, inl, inr, refl, ap}
use Rattle.bit_rows.proofs.words.WordBits.{has_bit-or}
use Rattle.bit_rows.specs.Words.{has_bit}
use Rattle.busy_bounds.proofs.busy_bounds.BusyBounds.mask.Goals as goal

or_left : (a b : Bool) → a ≡ true → (a || b) ≡ true
or_left a b is = ap (λ x. x || b) is

or_right : (a b : Bool) → b ≡ true → (a || b) ≡ true
or_right Bool.true b is = refl
or_right Bool.false b is = is

pub returns : goal.returns
returns c = λ k small low table.
    let first = c.mask_in.result in
    let second = c.mask_in-2.result in
    has_bit-or first second k ∙ elim (c.sets_at-here.ensures.one (64 * c.args.word + k) low table) [
      | inl here ↦ or_left (has_bit first k) (has_bit second k) (c.mask_in.ensures k small here)
      | inr brought ↦ or_right (has_bit first k) (has_bit second k) (c.mask_in-2.ensures k small brought)
    ]
