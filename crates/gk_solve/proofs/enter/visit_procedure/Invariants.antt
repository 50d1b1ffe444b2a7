use Rattle.std.proofs.Common.{◌<◌, ℕ, get_or}
use Rattle.flow_links.specs.Shapes.{directed_shape}
use Rattle.gk_solve.specs.Tables.Flags.{EntrySpreads, IsSiteSettled}
use Rattle.flow_links.specs.declared.link.SiteLink.{SiteLink}
use Rattle.gk_solve.proofs.enter.visit_procedure.Given as goal

abbrev pub invariant-loop-site : goal.invariant-loop-site
invariant-loop-site l = record {
  spreads : EntrySpreads (directed_shape l.links) l.reached l.fn.flags l.fn.dirty l.flags l.dirty;
  done : (j : ℕ) (d : SiteLink) → j < l.site-index → IsSiteSettled (directed_shape l.links) l.reached l.flags l.dirty (get_or l.sites j d);
}
