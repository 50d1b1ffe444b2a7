use Rattle.std.proofs.Common.{◌≡◌, ◌<◌, ◌≤◌, ℕ, List, Some, length, slice_get, slice_index, sym, ◌∙◌, arith}
use Rattle.std.proofs.lemmas.Option.{slice_get-get_or}
use Rattle.flow_graph.specs.Paths.{Shape}
use Rattle.flow_links.specs.LinkLists.{AreSitesIn, IsSiteLink}
use Rattle.flow_links.specs.declared.link.SiteLink.{SiteLink}
use Rattle.flow_graph.specs.WellFormed.{IsWellFormed}
use Rattle.flow_regions.specs.code.Ranks.{IsRanked}
use Rattle.flow_regions.proofs.ranks.raise.Goals as goal

ranked : (shape : Shape) (points procedure : ℕ) (sites : List SiteLink) (ranks : List ℕ) (highest : ℕ) → IsWellFormed shape
    → AreSitesIn shape points procedure sites → highest ≤ slice_index ranks procedure
    → ((j : ℕ) (site : SiteLink) → j < length sites → slice_get sites j ≡ Some site → slice_index ranks site.callee ≤ highest)
    → IsRanked shape ranks procedure
ranked shape points procedure sites ranks highest formed are low each site x callee call inside =
    let same : callee ≡ shape.procedure_of (shape.entry callee) = sym (formed.entry_inside callee call.0) in
    let link : SiteLink = record { point = x; callee = callee } in
    let is_link : IsSiteLink shape procedure link = (site, shape.entry callee, call.1, inside, same) in
    let (j, within, read) = (are.listed link).1 is_link in
    let at : slice_get sites j ≡ Some link = slice_get-get_or sites j link within ∙ (λ i. Some (read i)) in
    let under = each j link within at in
    omega arith

pub returns-then-highest-before-clause-ranked : goal.returns-then-highest-before-clause-ranked
returns-then-highest-before-clause-ranked c none =
    ranked _ _ c.args.procedure c.sites_in-sites.result.now c.args.ranks.now c.loop-site.highest c.points-before.ensures.numbered.formed c.sites_in-sites.ensures
    (omega arith) (λ j site low at. c.loop-site.invariant.each j site (omega arith) at)
