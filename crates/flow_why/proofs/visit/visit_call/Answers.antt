use Rattle.std.proofs.lemmas.Result.{on_ok_weaker}
use Rattle.flow_why.specs.code.Frames.{question_of}
use Rattle.flow_why.proofs.visits.Growing.{spreads_on}
use Rattle.flow_why.proofs.visits.Results.{on_ok_four}
use Rattle.flow_why.proofs.visits.Visiting.{call_visited}
use Rattle.flow_why.proofs.visit.visit_call.Goals as goal

pub returns-clause-spreads : goal.returns-clause-spreads
returns-clause-spreads c =
    on_ok_weaker c.visit_passing.result
    (λ last. spreads_on (question_of c.args.frame.now) c.args.search.now c.enter.new.search c.visit_passing.new.search
    c.in_ok-enter.ensures.spreads last)
    c.visit_passing.ensures.spreads

pub returns-clause-visited : goal.returns-clause-visited
returns-clause-visited c =
    let first = c.in_ok-enter.ensures in
    on_ok_four c.visit_passing.result
    (λ spreads begin pass keep. call_visited (question_of c.args.frame.now) c.args.claim c.args.at c.args.callee c.args.search.now
    c.enter.new.search c.visit_passing.new.search first.spreads.grows spreads.grows first.has begin pass keep)
    c.visit_passing.ensures.spreads c.visit_passing.ensures.begin c.visit_passing.ensures.pass c.visit_passing.ensures.keep
