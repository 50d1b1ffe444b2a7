use Rattle.std.proofs.Common.{sym, subst}
use Rattle.flow_why.specs.code.Frames.{question_of}
use Rattle.flow_why.specs.code.Marked.{MayMark}
use Rattle.flow_why.specs.declared.claim.Claim.TheVariants as claim
use Rattle.flow_why.specs.declared.mark.Reason.TheVariants.{Beginning}
use Rattle.flow_why.proofs.visits.Reasons.{may_begin}
use Rattle.flow_why.proofs.visit.begin.Goals as goal

pub add-requires-clause-may : goal.add-requires-clause-may
add-requires-clause-may c =
    let frame = c.args.frame.now in
    subst (λ n. MayMark (question_of frame) claim.Preserved c.args.search.now n Beginning) (sym c.entry.ensures)
    (may_begin frame c.requires.frame c.args.search.now c.args.procedure c.requires.within)
