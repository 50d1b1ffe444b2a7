use Rattle.std.proofs.Common.{subst}
use Rattle.std.proofs.lemmas.Result.{on_ok_weaker}
use Rattle.flow_why.specs.code.Found.{Has}
use Rattle.flow_why.proofs.visits.Reasons.{caller_low, may_pass_as}
use Rattle.flow_why.proofs.visit.pass.Goals as goal

pub ends_of_call-site-requires-clause-within : goal.ends_of_call-site-requires-clause-within
ends_of_call-site-requires-clause-within c =
    caller_low c.args.frame.now c.requires.frame c.requires.call.0 c.args.at c.args.callee c.requires.call.1

pub add-requires-clause-may : goal.add-requires-clause-may
add-requires-clause-may c =
    may_pass_as c.args.frame.now c.requires.frame c.args.search.now c.args.claim c.requires.call.0 c.args.at c.args.callee c.ends_of_call-site.result.0
    c.ends_of_call-site.result.1 c.effect.result c.requires.marks c.requires.call.1 c.requires.here c.requires.through
    c.ends_of_call-site.ensures.site c.ends_of_call-site.ensures.after c.effect.ensures

pub returns-clause-has : goal.returns-clause-has
returns-clause-has c =
    on_ok_weaker c.add.result (λ has. subst (λ n. Has c.add.new.search c.args.claim n) c.ends_of_call-site.ensures.after has) c.add.ensures.has
