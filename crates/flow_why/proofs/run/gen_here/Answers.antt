use Rattle.std.proofs.lemmas.Result.{on_ok_weaker}
use Rattle.flow_why.specs.code.Frames.{question_of}
use Rattle.flow_why.proofs.visits.Growing.{spreads_on}
use Rattle.flow_why.proofs.visits.Results.{on_ok_both}
use Rattle.flow_why.proofs.visits.Visiting.{both_generated}
use Rattle.flow_why.proofs.run.gen_here.Goals as goal

pub returns-clause-spreads : goal.returns-clause-spreads
returns-clause-spreads c =
    let question = question_of c.args.frame.now in
    on_ok_weaker c.gen_known-2.result
    (λ last. spreads_on question c.args.search.now c.gen_known.new.search c.gen_known-2.new.search c.in_ok-gen_known.ensures.spreads last)
    c.gen_known-2.ensures.spreads

pub returns-clause-visited : goal.returns-clause-visited
returns-clause-visited c =
    let question = question_of c.args.frame.now in
    on_ok_both c.gen_known-2.result
    (λ spreads has. both_generated question c.args.at c.args.to c.gen_known.new.search c.gen_known-2.new.search spreads.grows
    c.in_ok-gen_known.ensures.has has) c.gen_known-2.ensures.spreads c.gen_known-2.ensures.has
