use Rattle.std.proofs.Common.{◌<◌, get_or, arith, refl, ◌∙◌}
use Rattle.std.proofs.lemmas.List.Elements.{All-get_or, Contains-get_or}
use Rattle.flow_graph.specs.Points.{point_count}
use Rattle.flow_links.specs.Shapes.{directed_shape}
use Rattle.gk_solve.specs.Tables.Brought.{IsBringSettled}
use Rattle.gk_solve.specs.Tables.Groups.{group_of}
use Rattle.flow_links.specs.declared.link.SiteLink.{SiteLink}
use Rattle.gk_solve.proofs.visits.BroughtVisits.{bring_by_source, brought_on, site_settled_more}
use Rattle.gk_solve.proofs.visits.Listed.{each_listed, read_more}
use Rattle.gk_solve.proofs.visits.SummaryVisits.{has_size}
use Rattle.gk_solve.proofs.visits.Visits.{spreads_more}
use Rattle.gk_solve.proofs.bring.visit_procedure.Goals as goal

pub visit_site-requires : goal.visit_site-requires
visit_site-requires g c =
    let is = c.requires.frame in
    let narrow = is.narrow in
    let none : SiteLink = record { point = 0; callee = 0 } in
    let list = c.sites_in-sites.result.now in
    let there = (c.sites_in-sites.ensures.listed (get_or list c.loop-site.site-index none)).0
    (Contains-get_or list c.loop-site.site-index none c.loop-site-test.true) in
    let within = All-get_or (λ (link : SiteLink). (link.point < point_count c.args.frame.now.links.now.program)
    × (link.callee < (directed_shape c.args.frame.now.links.now).procedures))
    list c.loop-site.site-index none c.loop-site-test.true c.sites_in-sites.ensures.in_range in (
      has_size g.row.W narrow,
      (
        omega (arith, narrow),
        (
          is,
          (
            c.requires.points,
            (
              c.requires.summaries,
              (
                omega (arith, c.requires.count),
                (
                  c.loop-site.invariant.spreads.count ∙ c.requires.dirty_count,
                  (c.requires.within, (there, (within, c.loop-site.invariant.spreads.sound c.requires.sound))),
                ),
              ),
            ),
          ),
        ),
      ),
    )

pub loop-site-preserved : goal.loop-site-preserved
loop-site-preserved g c = record {
  spreads = spreads_more (brought_on g.row.W) _ _ _ _ _ _ c.loop-site.invariant.spreads c.visit_site.ensures.spreads;
  done = read_more
      (IsBringSettled (group_of c.args.frame.now g.row.W) c.args.frame.now.paths.now c.args.table.now c.visit_site.new.brought c.visit_site.new.dirty)
      c.sites_in-sites.result.now c.loop-site.site-index (record { point = 0; callee = 0 }) c.loop-site-test.true
      (λ j d below. site_settled_more (group_of c.args.frame.now g.row.W) c.args.frame.now.paths.now c.args.table.now
      _ _ _ _ _ c.visit_site.ensures.spreads (c.loop-site.invariant.done j d below)) c.visit_site.ensures.settled;
}

pub returns-clause-settled : goal.returns-clause-settled
returns-clause-settled g c =
    let shape = directed_shape c.args.frame.now.links.now in
    let none : SiteLink = record { point = 0; callee = 0 } in
    bring_by_source (group_of c.args.frame.now g.row.W)
    c.args.frame.now.paths.now c.args.table.now c.loop-site.brought c.loop-site.dirty c.args.procedure
    (λ site x y there same.
    let link : SiteLink = record { point = x; callee = shape.procedure_of y } in
    let done = each_listed
    (IsBringSettled (group_of c.args.frame.now g.row.W) c.args.frame.now.paths.now c.args.table.now c.loop-site.brought c.loop-site.dirty)
    c.sites_in-sites.result.now none c.loop-site.site-index (omega arith)
    (λ j below. c.loop-site.invariant.done j none below) link ((c.sites_in-sites.ensures.listed link).1 (site, y, there, same, refl)) in
    done.settled site x y there refl refl)
