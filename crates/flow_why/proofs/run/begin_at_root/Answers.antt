use Rattle.std.proofs.Common.{◌∙◌, ap, sym, subst}
use Rattle.flow_links.specs.Shapes.{directed_shape}
use Rattle.flow_why.specs.code.Frames.{question_of}
use Rattle.flow_why.specs.code.Marked.{MayMark}
use Rattle.flow_why.specs.declared.claim.Claim.TheVariants as claim
use Rattle.flow_why.specs.declared.mark.Reason.TheVariants.{Beginning}
use Rattle.flow_why.proofs.visits.Reasons.{may_root}
use Rattle.flow_why.proofs.run.begin_at_root.Goals as goal

pub add-requires-clause-may : goal.add-requires-clause-may
add-requires-clause-may c =
    let frame = c.args.frame.now in
    let at_root = c.entry.ensures ∙ ap (directed_shape frame.links.now).entry c.root.ensures in
    subst (λ n. MayMark (question_of frame) claim.Holds c.args.search.now n Beginning) (sym at_root)
    (may_root frame c.requires.frame c.args.search.now (sym c.in_boundary.ensures ∙ c.if-not-in_boundary.false))
