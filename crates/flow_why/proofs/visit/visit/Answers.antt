use Rattle.std.proofs.lemmas.Result.{on_ok_weaker}
use Rattle.flow_why.specs.code.Frames.{question_of}
use Rattle.flow_why.proofs.visits.Growing.{spreads_on}
use Rattle.flow_why.proofs.visits.Results.{on_ok_both}
use Rattle.flow_why.proofs.visits.Visiting.{visited_all}
use Rattle.flow_why.proofs.visit.visit.Goals as goal

pub returns-clause-spreads : goal.returns-clause-spreads
returns-clause-spreads c =
    let question = question_of c.args.frame.now in
    on_ok_weaker c.visit_callers.result
    (λ last. spreads_on question c.args.search.now c.visit_calls.new.search c.visit_callers.new.search
    (spreads_on question c.args.search.now c.visit_steps.new.search c.visit_calls.new.search c.in_ok-visit_steps.ensures.spreads
    c.in_ok-visit_calls.ensures.spreads) last) c.visit_callers.ensures.spreads

pub returns-clause-visited : goal.returns-clause-visited
returns-clause-visited c =
    let question = question_of c.args.frame.now in
    let first = c.in_ok-visit_steps.ensures in
    let second = c.in_ok-visit_calls.ensures in
    on_ok_both c.visit_callers.result
    (λ spreads callers. visited_all question c.args.claim c.args.at c.args.search.now c.visit_steps.new.search c.visit_calls.new.search
    c.visit_callers.new.search first.spreads.grows second.spreads.grows spreads.grows first.visited second.visited callers)
    c.visit_callers.ensures.spreads c.visit_callers.ensures.visited
