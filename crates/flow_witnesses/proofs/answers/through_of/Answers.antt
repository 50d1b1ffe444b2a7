use Rattle.std.proofs.Common.{IfOk, MatchOption, sym, subst}
use Rattle.flow_why.specs.Witnesses.{IsNeverPassed, IsThroughWitness}
use Rattle.flow_why.specs.code.Frames.{question_of}
use Rattle.flow_witnesses.proofs.answers.through_of.Goals as goal

pub returns-in-Reaches : goal.returns-in-Reaches
returns-in-Reaches c =
    let question = question_of c.args.frame.now in
    subst (λ e. IfOk c.reached_through.result (λ found. MatchOption found (IsNeverPassed question.shape question.transfer c.args.callee e)
    (λ hops. IsThroughWitness question.shape question.transfer c.args.callee e hops.items)))
    (sym c.in-Reaches.is) c.reached_through.ensures

pub returns-in-Generates : goal.returns-in-Generates
returns-in-Generates c =
    let question = question_of c.args.frame.now in
    subst (λ e. IfOk c.found_through.result (λ found. MatchOption found (IsNeverPassed question.shape question.transfer c.args.callee e)
    (λ hops. IsThroughWitness question.shape question.transfer c.args.callee e hops.items)))
    (sym c.in-Generates.is) c.found_through.ensures

pub returns-in-Preserves : goal.returns-in-Preserves
returns-in-Preserves c =
    let question = question_of c.args.frame.now in
    subst (λ e. IfOk c.found_through-in-Preserves.result (λ found. MatchOption found (IsNeverPassed question.shape question.transfer c.args.callee e)
    (λ hops. IsThroughWitness question.shape question.transfer c.args.callee e hops.items)))
    (sym c.in-Preserves.is) c.found_through-in-Preserves.ensures
