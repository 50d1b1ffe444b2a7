use Rattle.std.proofs.Common.{get_or, arith, refl}
use Rattle.std.proofs.lemmas.List.Elements.{Contains-get_or}
use Rattle.flow_links.specs.Shapes.{directed_shape}
use Rattle.gk_solve.specs.Tables.Flags.{IsSiteSettled}
use Rattle.flow_links.specs.declared.link.SiteLink.{SiteLink}
use Rattle.gk_solve.proofs.visits.FlagVisits.{site_settled_more, entry_by_source, flags_on}
use Rattle.gk_solve.proofs.visits.Listed.{each_listed, read_more}
use Rattle.gk_solve.proofs.visits.Visits.{spreads_more}
use Rattle.gk_solve.proofs.enter.visit_procedure.Goals as goal

pub visit_site-requires-clause-there : goal.visit_site-requires-clause-there
visit_site-requires-clause-there c =
    let none : SiteLink = record { point = 0; callee = 0 } in
    let list = c.sites_in-sites.result.now in
    (c.sites_in-sites.ensures.listed (get_or list c.loop-site.site-index none)).0
    (Contains-get_or list c.loop-site.site-index none c.loop-site-test.true)

pub loop-site-preserved : goal.loop-site-preserved
loop-site-preserved c =
    let shape = directed_shape c.args.links.now in
    record {
      spreads = spreads_more flags_on _ _ _ _ _ _ c.loop-site.invariant.spreads c.visit_site.ensures.spreads;
      done = read_more (IsSiteSettled shape c.args.reached.now c.visit_site.new.flags c.visit_site.new.dirty)
          c.sites_in-sites.result.now c.loop-site.site-index (record { point = 0; callee = 0 }) c.loop-site-test.true
          (λ j d below. site_settled_more shape c.args.reached.now _ _ _ _ _ c.visit_site.ensures.spreads (c.loop-site.invariant.done j d below))
          c.visit_site.ensures.settled;
    }

pub returns-clause-settled : goal.returns-clause-settled
returns-clause-settled c =
    let shape = directed_shape c.args.links.now in
    let none : SiteLink = record { point = 0; callee = 0 } in
    entry_by_source shape c.args.reached.now c.loop-site.flags c.loop-site.dirty c.args.procedure
    (λ site x y there same.
    let link : SiteLink = record { point = x; callee = shape.procedure_of y } in
    let done = each_listed (IsSiteSettled shape c.args.reached.now c.loop-site.flags c.loop-site.dirty)
    c.sites_in-sites.result.now none c.loop-site.site-index (omega arith)
    (λ j. c.loop-site.invariant.done j none) link ((c.sites_in-sites.ensures.listed link).1 (site, y, there, same, refl)) in
    done.settled site x y there refl refl)
