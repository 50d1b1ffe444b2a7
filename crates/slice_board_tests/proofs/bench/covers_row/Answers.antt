use Rattle.std.proofs.Common.{◌≡◌, ℕ, ◌∙◌, sym, subst, arith, true}
use mathlib.Core.Logic.{dite}
use native.Mathlib.Decide.{ℕ_discrete}
use Rattle.bit_rows.specs.RowSet.{contains}
use Rattle.slice_board_tests.proofs.sets.Benching.{has_it}
use Rattle.slice_board_tests.proofs.bench.covers_row.Goals as goal

pub loop-bit-preserved : goal.loop-bit-preserved
loop-bit-preserved c bit low high has = dite (ℕ_discrete bit c.loop-bit.bit)
    (λ e. subst (λ (b : ℕ). contains c.args.mine.now b ≡ true) (sym e)
    (has_it (contains c.args.wanted.now c.loop-bit.bit) (contains c.args.mine.now c.loop-bit.bit) (sym c.lacks.ensures
    ∙ c.if-lacks.false) (subst (λ (b : ℕ). contains c.args.wanted.now b ≡ true) e has)))
    (λ n. c.loop-bit.invariant bit low (omega arith) has)

pub returns : goal.returns
returns c all bit low high has = c.loop-bit.invariant bit low (omega (arith, c.loop-bit-test.false)) has
