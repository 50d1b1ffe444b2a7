use Rattle.std.proofs.Common.{◌∙◌, ℕ, Bool, sym, arith}
use Rattle.point_sets.specs.code.Changes.{shows_changed}
use Rattle.point_sets.proofs.sets.Some.{none_below, some_below}
use Rattle.point_sets.proofs.change.Change.has_any.Goals as goal

pub returns-then-shows : goal.returns-then-shows
returns-then-shows c =
    let test : ℕ → Bool = shows_changed c.args.self.now c.args.came in
    sym (some_below test c.args.bits c.loop-bit.bit c.loop-bit-test.true (sym c.shows.ensures ∙ c.if-shows.true))

pub returns : goal.returns
returns c =
    let test : ℕ → Bool = shows_changed c.args.self.now c.args.came in
    sym (none_below test c.args.bits (λ k below. c.loop-bit.invariant k (omega (arith, below, c.loop-bit-test.false))))
