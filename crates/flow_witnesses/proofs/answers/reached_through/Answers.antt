use Rattle.std.proofs.Common.{◌<◌, sym, subst}
use Rattle.flow_why.specs.code.Found.{Has}
use Rattle.flow_why.specs.code.Frames.{question_of}
use Rattle.flow_why.specs.code.Trails.{AreInnerHops}
use Rattle.flow_why.specs.declared.claim.Claim.TheVariants as claim
use Rattle.flow_why.proofs.solutions.Passing.{never_reached, reached_passes}
use Rattle.flow_witnesses.proofs.answers.reached_through.Goals as goal

pub has-requires : goal.has-requires
has-requires c =
    let formed = c.requires.answered.asked.formed in
    subst (λ n. c.exit-exit.result < n) (sym (formed.base claim.Preserved))
    (subst (λ n. n < (question_of c.args.frame.now).points) (sym c.exit-exit.ensures) (formed.numbered.exit_in_range c.args.callee c.requires.there))

pub returns-then-not-has : goal.returns-then-not-has
returns-then-not-has c =
    let frame = c.args.frame.now in
    never_reached frame c.args._search.now c.requires.answered c.requires.whole c.args.callee
    (λ has. absurd (cc (c.if-not-has.true, c.has.ensures.1 (subst (λ n. Has frame.base.now claim.Preserved n) (sym c.exit-exit.ensures) has))))

pub returns : goal.returns
returns c =
    reached_passes c.args.frame.now c.args._search.now c.requires.answered c.requires.whole c.args.callee c.in_ok-hops.hops.items c.requires.there
    (subst (λ n. AreInnerHops (question_of c.args.frame.now) n c.in_ok-hops.hops.items) c.exit-exit.ensures c.in_ok-hops.ensures)
