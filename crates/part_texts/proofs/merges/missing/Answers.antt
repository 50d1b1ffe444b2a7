use Rattle.std.proofs.Common.{◌≡◌, ℕ, ◌+◌, ◌-◌, ◌∙◌, sym, ap, map, not, arith}
use Rattle.std.specs.List.{find, range_with_len}
use Rattle.part_texts.specs.Merges.{is_there}
use Rattle.part_texts.specs.code.ReadParts.{part_in}
use Rattle.part_texts.proofs.Words.{find_more}
use Rattle.part_texts.proofs.merges.missing.Goals as goal

pub loop-before-preserved : goal.loop-before-preserved
loop-before-preserved c =
    let e : c.parts_of-before-end.result - c.loop-before.before - 1 ≡ c.parts_of-before-end.result - (c.loop-before.before + 1) = omega arith in
    let p = λ (k : ℕ). not (is_there (map part_in c.args.parts.now) k) in
    sym (find_more p (c.loop-before.before + 1) (c.parts_of-before-end.result - c.loop-before.before) (omega (arith, c.loop-before-test.true))
    (ap not (sym c.is_there.ensures ∙ c.if-not-is_there.false)) ∙ ap (λ n. find p (range_with_len (c.loop-before.before + 1 + 1) n)) e)
    ∙ c.loop-before.invariant
