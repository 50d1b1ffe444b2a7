use Rattle.std.proofs.Common.{◌∙◌, ℕ, Bool, sym, arith}
use Rattle.flow_team.specs.Tables.{facts_of}
use Rattle.point_sets.proofs.sets.Some.{none_below, some_below}
use Rattle.json_texts.proofs.changes.has_some.Goals as goal

pub returns-then-contains : goal.returns-then-contains
returns-then-contains c =
    let test : ℕ → Bool = (facts_of c.args.table.now).contains c.args.point in
    sym (some_below test c.args.bits c.loop-bit.bit c.loop-bit-test.true (sym c.contains.ensures ∙ c.if-contains.true))

pub returns : goal.returns
returns c =
    let test : ℕ → Bool = (facts_of c.args.table.now).contains c.args.point in
    sym (none_below test c.args.bits (λ k below. c.loop-bit.invariant k (omega (arith, below, c.loop-bit-test.false))))
