use Rattle.std.proofs.lemmas.Result.{on_ok_weaker}
use Rattle.flow_why.specs.code.Frames.{question_of}
use Rattle.flow_why.proofs.visits.Growing.{spreads_on}
use Rattle.flow_why.proofs.visits.Results.{on_ok_both}
use Rattle.flow_why.proofs.visits.Visiting.{all_woken}
use Rattle.flow_why.proofs.visit.pass_all.Goals as goal

pub returns-clause-spreads : goal.returns-clause-spreads
returns-clause-spreads c =
    let question = question_of c.args.frame.now in
    on_ok_weaker c.pass_known-3.result
    (λ last. spreads_on question c.args.search.now c.pass_known-2.new.search c.pass_known-3.new.search
    (spreads_on question c.args.search.now c.pass_known.new.search c.pass_known-2.new.search c.in_ok-pass_known.ensures.spreads
    c.in_ok-pass_known-2.ensures.spreads) last) c.pass_known-3.ensures.spreads

pub returns-clause-visited : goal.returns-clause-visited
returns-clause-visited c =
    let question = question_of c.args.frame.now in
    let first = c.in_ok-pass_known.ensures in
    let second = c.in_ok-pass_known-2.ensures in
    on_ok_both c.pass_known-3.result
    (λ spreads has. all_woken question c.args.at c.args.search.now c.pass_known.new.search c.pass_known-2.new.search c.pass_known-3.new.search
    first.spreads.grows second.spreads.grows spreads.grows first.has second.has has) c.pass_known-3.ensures.spreads c.pass_known-3.ensures.has
