use Rattle.std.proofs.Common.{nat_eq, ◌&&◌}
use Rattle.std.proofs.lemmas.List.Elements.{contains_decides, Decides-contains}
use Rattle.flow_links.specs.declared.link.CallLink.{CallLink}
use Rattle.flow_links.proofs.groups.SameLinks.{same_call_test}
use Rattle.flow_links.proofs.edges.has_call.Goals as goal

pub returns : goal.returns
returns c =
    let calls = c.calls_from.result.now in
    let test = Decides-contains calls c.args.call _
    (contains_decides (λ (a b : CallLink). nat_eq a.exit b.exit && nat_eq a.after b.after) same_call_test calls c.args.call _
    c.contains.ensures.cases) in
    let listed = c.calls_from.ensures.listed c.args.call in
    (λ yes. listed.0 (test.0 yes), λ call. test.1 (listed.1 call))
