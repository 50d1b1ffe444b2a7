use Rattle.std.proofs.Common.{rules, ◌≡◌, ℕ, ◌+◌, ◌-◌, ◌*◌, ◌<◌, ◌≤◌, get_or, length, arith, true, false, List, ◌∙◌, ap, sym, subst, take}
use Rattle.std.specs.Str.Parse.{digits_value}
use Rattle.part_texts.specs.Lines.{read_number}
use Rattle.part_texts.proofs.Numbers.{all_more, value_more, too_large}
use Rattle.part_texts.proofs.number.read_number.Goals as goal

pub returns-then-value-from : goal.returns-then-value-from
returns-then-value-from c = sym (too_large c.args.most c.args.digits.now (c.loop-digit.digit-index + 1)
    (let e = value_more c.args.digits.now c.loop-digit.digit-index c.loop-digit.value c.loop-digit-test.true c.loop-digit.invariant.is
    (sym (c.if-not-is_ascii_digit.ensures.value)) in
    subst (λ n. c.args.most < n) (ap (λ n. 10 * c.loop-digit.value + n) c.from.ensures ∙ e)
    (omega (arith, c.if-value-from.true, c.from-in-loop-digit.ensures))))

pub loop-digit-preserved : goal.loop-digit-preserved
loop-digit-preserved c = record {
  all = all_more _ _ c.loop-digit-test.true c.loop-digit.invariant.all (sym c.if-not-is_ascii_digit.ensures.value);
  is = ap (λ n. 10 * c.loop-digit.value + n) c.from.ensures
      ∙ value_more _ _ _ c.loop-digit-test.true c.loop-digit.invariant.is (sym c.if-not-is_ascii_digit.ensures.value);
  most = omega (arith, c.if-value-from.false, c.from-in-loop-digit.ensures);
}
