use Rattle.std.proofs.Common.{◌≡◌, ℕ, ◌+◌, ◌<◌, ◌∙◌, List, get_or, inl, inr, sym, ap, arith}
use Rattle.std.specs.Prelude.{slice_index}
use Rattle.std.proofs.lemmas.Bool.{cases_lt}
use Rattle.std.proofs.lemmas.Grind.{get_or_default_zero}
use Rattle.flow_builder.proofs.sound.differ.Goals as goal

-- one more is apart from all before
one_more : (xs : List ℕ) (at : ℕ) → ((i j : ℕ) → i < j → j < at → ¬ (slice_index xs i ≡ slice_index xs j))
    → ((i : ℕ) → i < at → ¬ (slice_index xs i ≡ slice_index xs at))
    → (i j : ℕ) → i < j → j < at + 1 → ¬ (slice_index xs i ≡ slice_index xs j)
one_more xs at before last i j below within same = elim (cases_lt j at) [
  | inl low ↦ before i j below low same
  | inr high ↦
      let here : j ≡ at = omega (arith, within, high) in
      last i (omega (arith, below, here)) (same ∙ ap (slice_index xs) here)
]

pub returns-then-stands_before-clause-some : goal.returns-then-stands_before-clause-some
returns-then-stands_before-clause-some c _ apart =
    let (i, below, same) = c.stands_before.ensures.found c.if-stands_before.true in
    apart i c.loop-at.at 0 below (omega (arith, c.loop-at-test.true)) same

pub loop-at-preserved : goal.loop-at-preserved
loop-at-preserved c =
    one_more c.args.callees.now c.loop-at.at c.loop-at.invariant (c.stands_before.ensures.none c.if-stands_before.false)

pub returns-clause-all : goal.returns-clause-all
returns-clause-all c _ i j d below within same =
    let xs : List ℕ = c.args.callees.now in
    let first : get_or xs i d ≡ get_or xs i 0 = get_or_default_zero xs i d (omega (arith, below, within)) in
    let second : get_or xs j d ≡ get_or xs j 0 = get_or_default_zero xs j d within in
    c.loop-at.invariant i j below (omega (arith, within, c.loop-at-test.false)) (sym first ∙ same ∙ second)
