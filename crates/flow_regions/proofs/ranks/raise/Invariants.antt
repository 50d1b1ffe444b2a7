use Rattle.std.proofs.Common.{◌≡◌, ◌<◌, ◌≤◌, ℕ, slice_index, slice_get, Some}
use Rattle.flow_links.specs.declared.link.SiteLink.{SiteLink}
use Rattle.flow_regions.proofs.ranks.raise.Given as goal

abbrev pub invariant-loop-site : goal.invariant-loop-site
invariant-loop-site l = record {
  above : l.before ≤ l.highest;
  each : (j : ℕ) (site : SiteLink) → j < l.site-index → slice_get l.sites j ≡ Some site → slice_index l.ranks site.callee ≤ l.highest;
}
