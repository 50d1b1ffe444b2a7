use Rattle.std.proofs.Common.{nat_eq, ◌&&◌}
use Rattle.std.proofs.lemmas.List.Elements.{contains_decides, Decides-contains}
use Rattle.flow_links.specs.declared.link.SiteLink.{SiteLink}
use Rattle.flow_links.proofs.groups.SameLinks.{same_site_test}
use Rattle.flow_links.proofs.edges.has_site.Goals as goal

pub returns : goal.returns
returns c =
    let sites = c.sites_in.result.now in
    let test = Decides-contains sites c.args.call _
    (contains_decides (λ (a b : SiteLink). nat_eq a.point b.point && nat_eq a.callee b.callee) same_site_test sites c.args.call _
    c.contains.ensures.cases) in
    let listed = c.sites_in.ensures.listed c.args.call in
    (λ yes. listed.0 (test.0 yes), λ site. test.1 (listed.1 site))
