use Rattle.std.proofs.Common.{◌≡◌, ℕ, true, false, get_or, slice_index_or, ◌∙◌, arith}
use Rattle.std.proofs.lemmas.List.Elements.{Contains-get_or}
use Rattle.flow_links.specs.Shapes.{directed_shape}
use Rattle.flow_why.specs.code.Frames.{transfer_for}
use Rattle.flow_why.proofs.visits.Listed.{each_listed, listed_more}
use Rattle.flow_why.proofs.scope.mark_killing_point.Goals as goal

pub mark_killing_step-requires-clause-there : goal.mark_killing_step-requires-clause-there
mark_killing_step-requires-clause-there c =
    let list = c.steps_from-steps.result.now in
    let k = c.loop-to.to-index in
    (c.steps_from-steps.ensures.listed (get_or list k 0)).0 (Contains-get_or list k 0 c.loop-to-test.true)

pub loop-to-preserved : goal.loop-to-preserved
loop-to-preserved c =
    let frame = c.args.frame.now in
    let Marks : ℕ → Type 0 = λ y. (transfer_for frame).kill c.args.at y ≡ true
    → slice_index_or c.mark_killing_step.new.marks ((directed_shape frame.links.now).procedure_of c.args.at) false ≡ true in
    let more = c.mark_killing_step.ensures in record {
      count = more.count ∙ c.loop-to.invariant.count;
      stays = λ p is. more.stays p (c.loop-to.invariant.stays p is);
      done = listed_more (λ y. Unit {0})
          (λ y. (transfer_for frame).kill c.args.at y ≡ true
          → slice_index_or c.loop-to.marks ((directed_shape frame.links.now).procedure_of c.args.at) false ≡ true)
          Marks c.steps_from-steps.result.now c.loop-to.to-index 0 c.loop-to-test.true (λ y there. tt)
          (λ y known before kill. more.stays ((directed_shape frame.links.now).procedure_of c.args.at) (before kill))
          c.loop-to.invariant.done more.kills;
    }

pub returns-clause-kills : goal.returns-clause-kills
returns-clause-kills c y there =
    let frame = c.args.frame.now in
    each_listed (λ (y : ℕ). (transfer_for frame).kill c.args.at y ≡ true
    → slice_index_or c.loop-to.marks ((directed_shape frame.links.now).procedure_of c.args.at) false ≡ true)
    c.steps_from-steps.result.now 0 c.loop-to.to-index (omega (arith, c.loop-to-test.false)) (λ j below. c.loop-to.invariant.done j 0 below) y
    ((c.steps_from-steps.ensures.listed y).1 there)
