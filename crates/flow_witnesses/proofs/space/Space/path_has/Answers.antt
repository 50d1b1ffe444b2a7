use Rattle.std.proofs.Common.{◌∙◌, sym}
use Rattle.flow_why.specs.declared.claim.Claim.TheVariants as claim
use Rattle.flow_witnesses.proofs.space.Space.path_has.Goals as goal

pub invariant_of-result : goal.invariant_of-result
invariant_of-result c =
    let points = c.in_ok-has.ensures.points in
    (points claim.Generated ∙ sym (points claim.Holds), points claim.Preserved ∙ sym (points claim.Holds))

pub returns-clause-space : goal.returns-clause-space
returns-clause-space c = c.in_ok-has.ensures.points claim.Holds
