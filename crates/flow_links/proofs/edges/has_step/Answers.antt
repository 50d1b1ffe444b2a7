use Rattle.std.proofs.Common.{nat_eq}
use Rattle.std.proofs.lemmas.Bool.Decides.{Decides-eqb}
use Rattle.std.proofs.lemmas.List.Elements.{contains_decides, Decides-contains}
use Rattle.flow_links.proofs.edges.has_step.Goals as goal

pub returns : goal.returns
returns c =
    let steps = c.steps_from.result.now in
    let test = Decides-contains steps c.args.to _ (contains_decides nat_eq Decides-eqb steps c.args.to _ c.contains.ensures.cases) in
    let listed = c.steps_from.ensures.listed c.args.to in
    (λ yes. listed.0 (test.0 yes), λ edge. test.1 (listed.1 edge))
