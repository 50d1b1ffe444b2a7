use Rattle.std.proofs.Common.{◌<◌, ℕ, get_or}
use Rattle.gk_solve.specs.Tables.Brought.{BroughtSpreads, IsBringSettled}
use Rattle.gk_solve.specs.Tables.Groups.{group_of}
use Rattle.flow_links.specs.declared.link.SiteLink.{SiteLink}
use Rattle.gk_solve.proofs.bring.visit_procedure.Given as goal

abbrev pub invariant-loop-site : goal.invariant-loop-site
invariant-loop-site g l = record {
  spreads : BroughtSpreads (group_of l.frame g.row.W) l.frame.paths.now l.table l.fn.brought l.fn.dirty l.brought l.dirty;
  done : (j : ℕ) (d : SiteLink) → j < l.site-index
      → IsBringSettled (group_of l.frame g.row.W) l.frame.paths.now l.table l.brought l.dirty (get_or l.sites j d);
}
