use Rattle.std.proofs.Common.{◌<◌, ◌∙◌, List, ℕ, length, fold, All, sym, ap, subst, arith}
use Rattle.tac_program.specs.Sound.{IsSound}
use Rattle.flow_graph.specs.code.NumberLists.{contents, with_last}
use Rattle.flow_graph.specs.Points.{point_count}
use Rattle.flow_graph.proofs.edges.SiteLemmas.{callees_are, one_site_more}
use Rattle.flow_graph.proofs.sites.call_sites.Goals as goal

pub put_site-requires : goal.put_site-requires
put_site-requires c =
    let sound : IsSound c.args.points.now = subst IsSound c.program.ensures c.procs-procs.ensures.sound in
    let below : c.loop-point.point < point_count c.args.points.now = omega arith in
    let known = callees_are c.args.points.now c.loop-point.point sound below in
    subst (λ (cs : List ℕ). All (λ p. p < length (contents c.loop-point.sites.items)) cs) (sym c.callees.ensures)
    (λ k d inside. omega (arith, known.there k d inside, c.loop-point.invariant.count))

pub loop-point-preserved : goal.loop-point-preserved
loop-point-preserved c =
    let sound : IsSound c.args.points.now = subst IsSound c.program.ensures c.procs-procs.ensures.sound in
    let below : c.loop-point.point < point_count c.args.points.now = omega arith in
    one_site_more c.args.points.now c.loop-point.point (contents c.loop-point.sites.items) (contents c.put_site.new.lists.items)
    sound below c.loop-point.invariant
    (c.in_ok-put_site.ensures ∙ ap (λ (cs : List ℕ).
    fold (λ known procedure. with_last known procedure c.loop-point.point) (contents c.loop-point.sites.items) cs) c.callees.ensures)
