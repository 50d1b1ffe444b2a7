use Rattle.std.proofs.Common.{◌≡◌, length, slice_index, subst, arith}
use Rattle.std.proofs.lemmas.List.Elements.{Contains-get_or}
use Rattle.flow_bounds.specs.Clauses.{StepClause, cell_count}
use Rattle.flow_bounds.specs.code.Frames.{Adds, BelowClause}
use Rattle.flow_bounds.proofs.telling.Adding.{adds_as, adds_more}
use Rattle.flow_bounds.proofs.telling.Links.{steps_back, steps_from}
use Rattle.flow_bounds.proofs.clauses.put_steps.Goals as goal

pub put_step-requires-clause-there : goal.put_step-requires-clause-there
put_step-requires-clause-there c = (c.steps_from-steps.ensures.listed _).0 (Contains-get_or _ c.loop-to.to-index 0 c.loop-to-test.true)

pub loop-to-preserved : goal.loop-to-preserved
loop-to-preserved c =
    adds_more (cell_count c.args.frame.now) (λ j. StepClause c.args.frame.now c.args.x (slice_index c.steps_from-steps.result.now j)) c.loop-to.to-index
    _ _ _ c.loop-to.invariant c.in_ok-put_step.ensures

pub returns : goal.returns
returns c =
    let all : c.loop-to.to-index ≡ length c.steps_from-steps.result.now = omega arith in
    adds_as (cell_count c.args.frame.now) _ _ _ _
    (steps_from c.args.frame.now c.requires.frame c.args.x c.steps_from-steps.result.now c.steps_from-steps.ensures)
    (steps_back c.args.frame.now c.requires.frame c.args.x c.steps_from-steps.result.now c.steps_from-steps.ensures)
    (subst (λ n. Adds (cell_count c.args.frame.now)
    (BelowClause (λ j. StepClause c.args.frame.now c.args.x (slice_index c.steps_from-steps.result.now j)) n) c.args.rules.now.items c.loop-to.rules.items) all c.loop-to.invariant)
