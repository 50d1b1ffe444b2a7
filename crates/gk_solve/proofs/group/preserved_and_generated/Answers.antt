use Rattle.std.proofs.lemmas.List.{get_or-replicate, length-replicate}
use Rattle.std.proofs.Common.{inr, ap, length, false, ◌∙◌, Bool, List, true, get_or, arith}
use Rattle.std.proofs.Math.ListN.{length-set}
use Rattle.flow_graph.specs.Paths.{source_of}
use Rattle.flow_links.specs.Shapes.{directed_shape}
use Rattle.gk_solve.specs.Tables.Groups.{IsSummaryClosedAt, group_of, preserved_word, generated_word}
use Rattle.gk_solve.proofs.visits.Visits.{all_closed, visit_falls, visit_settles_from}
use Rattle.gk_solve.proofs.edges.WordEdges.{all_preserved, all_generated}
use Rattle.gk_solve.proofs.group.preserved_and_generated.Goals as goal

pub visits-smaller : goal.visits-smaller
visits-smaller g c = visit_falls c.visits.table c.visits.dirty c.visit_point.new.table c.take.new.self c.visit_point.new.dirty c.in-Some.at
    c.in-Some.ensures.0
    c.in-Some.ensures.1 c.visit_point.ensures.spreads

pub visits-preserved : goal.visits-preserved
visits-preserved g c = record {
  count = c.visit_point.ensures.spreads.count ∙ (ap length c.in-Some.ensures.1 ∙ (length-set c.visits.dirty c.in-Some.at false ∙
      c.visits.invariant.count));
  settled =
      visit_settles_from (IsSummaryClosedAt (group_of c.args.frame.now g.row.W) c.args.frame.now.paths.now) source_of
      c.visits.table c.visits.dirty c.visit_point.new.table c.take.new.self
      c.visit_point.new.dirty c.in-Some.at c.in-Some.ensures.1 c.visit_point.ensures.spreads
      c.visit_point.ensures.settled c.visits.invariant.settled;
  entries = λ p w k below inside low. (c.visit_point.ensures.spreads.grows w inside).0 _ k (c.visits.invariant.entries p w k below inside low);
  sound = c.visit_point.ensures.spreads.sound c.visits.invariant.sound;
}

pub returns-clause-complete : goal.returns-clause-complete
returns-clause-complete g c w x k inside low flag =
    let group = group_of c.args.frame.now g.row.W in
    let is = c.requires.frame in
    let closed = all_closed (IsSummaryClosedAt group c.args.frame.now.paths.now) (directed_shape c.args.frame.now.links.now) source_of
    c.visits.table c.visits.dirty c.visits.invariant.settled c.in_default.ensures.0 in (
      all_preserved is.numbered (group.transfer w) c.args.frame.now.paths.now is.paths (preserved_word c.visits.table w)
          (λ edge there. (closed edge there w inside).0) k low
          (λ p within. c.visits.invariant.entries p w k within inside low) x flag,
      all_generated is.numbered (group.transfer w) c.args.frame.now.paths.now is.paths (preserved_word c.visits.table w) (generated_word c.visits.table w)
          (λ edge there. (closed edge there w inside).0) (λ edge there. (closed edge there w inside).1) k low
          (λ p within. c.visits.invariant.entries p w k within inside low) x flag,
    )

pub visits-init : goal.visits-init
visits-init g c = record {
  count = ap length c.mark_all.ensures ∙ (length-replicate (length c.args.dirty.now) true ∙ c.requires.dirty_count);
  settled = λ edge there.
      let low = (c.requires.frame.numbered.edge_in_range edge there).0 in
      inr (ap (λ (d : List Bool). get_or d (source_of edge) false) c.mark_all.ensures
      ∙ get_or-replicate (length c.args.dirty.now) (source_of edge) true false (omega (arith, low, c.requires.dirty_count)));
  entries = c.begin_summaries.ensures.entries;
  sound = c.begin_summaries.ensures.sound;
}
