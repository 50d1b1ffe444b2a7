use Rattle.std.proofs.Common.{◌≡◌, ◌∙◌, Some, slice_get, slice_index_or, sym, subst, arith}
use native.Mathlib.Decide.{ℕ_discrete}
use mathlib.Core.Logic.{dite}
use Rattle.std.proofs.lemmas.Option.{get_or_from_slice_get}
use Rattle.flow_bounds.specs.Asked.{IsTrueOf}
use Rattle.flow_bounds.specs.declared.asked.Ask.{Ask}
use Rattle.flow_bounds.specs.declared.asked.Told.{Told}
use Rattle.flow_bounds.specs.declared.asked.Told.TheVariants.{Nothing}
use Rattle.flow_bounds.proofs.answers.put_one.Goals as goal

pub put_value-requires : goal.put_value-requires
put_value-requires c = omega (arith, c.if-number-asking.false, c.requires.before.count)

pub returns-then-ask-columns : goal.returns-then-ask-columns
returns-then-ask-columns c = record {
  count = c.put_value.ensures.count ∙ c.requires.before.count;
  each = λ i one there. dite (ℕ_discrete i c.args.number)
      (λ same.
      let at : slice_get c.args.asking.asks.now c.args.number ≡ Some one =
      subst (λ n. slice_get c.args.asking.asks.now n ≡ Some one) same there in
      let is = get_or_from_slice_get c.args.asking.asks.now c.args.number one (record { column = 0; point = 0 }) at in
      subst (λ (t : Told). IsTrueOf c.args.asking.shared.problem.now one t) (subst (λ n. c.tell_ask-value.result ≡ slice_index_or c.put_value.new.told n Nothing)
      (sym same) (sym c.put_value.ensures.here))
      (subst (λ (a : Ask). IsTrueOf c.args.asking.shared.problem.now a c.tell_ask-value.result) is c.tell_ask-value.ensures))
      (λ other.
      subst (λ (t : Told). IsTrueOf c.args.asking.shared.problem.now one t) (sym (c.put_value.ensures.others i other)) (c.requires.before.each i one there));
}
