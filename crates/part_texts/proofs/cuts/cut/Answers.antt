use Rattle.std.proofs.Common.{rules, ◌≡◌, ◌==◌, ℕ, ◌+◌, ◌<◌, arith, eq-eqb}
use Rattle.part_texts.proofs.CutTexts.{first_cut, none_cut}
use Rattle.part_texts.proofs.cuts.cut.Goals as goal

pub returns : goal.returns
returns c = none_cut (λ b. b == c.args.byte) _ _ c.loop-i-test.false c.loop-i.invariant

pub returns-then-b-byte : goal.returns-then-b-byte
returns-then-b-byte c = first_cut (λ b. b == c.args.byte) _ _ c.loop-i-test.true c.loop-i.invariant (eq-eqb _ _ c.if-b-byte.true)
