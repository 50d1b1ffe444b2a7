use Rattle.std.proofs.lemmas.List.{get_or-replicate, length-replicate}
use Rattle.std.proofs.Common.{ap, length, false, ◌∙◌, Bool, List, true, get_or, inr, arith}
use Rattle.std.proofs.Math.ListN.{length-set}
use Rattle.flow_links.specs.Shapes.{directed_shape}
use Rattle.gk_solve.specs.Tables.Brought.{IsBroughtClosedAt, brought_word}
use Rattle.gk_solve.specs.Tables.Flags.{source_procedure}
use Rattle.gk_solve.specs.Tables.Groups.{group_of, preserved_word, generated_word}
use Rattle.gk_solve.proofs.visits.Visits.{visit_falls, visit_settles_from, all_closed}
use Rattle.gk_solve.proofs.edges.WordEdges.{all_brought}
use Rattle.gk_solve.proofs.bring.brought.Goals as goal

pub visits-smaller : goal.visits-smaller
visits-smaller g c = visit_falls c.visits.brought c.visits.dirty c.visit_procedure.new.brought c.take.new.self c.visit_procedure.new.dirty
    c.in-Some.procedure
    c.in-Some.ensures.0 c.in-Some.ensures.1 c.visit_procedure.ensures.spreads

pub visits-preserved : goal.visits-preserved
visits-preserved g c = record {
  count = c.visit_procedure.ensures.spreads.count
      ∙ (ap length c.in-Some.ensures.1 ∙ (length-set c.visits.dirty c.in-Some.procedure false ∙ c.visits.invariant.count));
  settled = visit_settles_from (IsBroughtClosedAt (group_of c.args.frame.now g.row.W) c.args.frame.now.paths.now c.args.table.now)
      (source_procedure (directed_shape c.args.frame.now.links.now)) c.visits.brought c.visits.dirty c.visit_procedure.new.brought c.take.new.self
      c.visit_procedure.new.dirty c.in-Some.procedure c.in-Some.ensures.1 c.visit_procedure.ensures.spreads c.visit_procedure.ensures.settled
      c.visits.invariant.settled;
  root = λ w k inside low has. c.visit_procedure.ensures.spreads.grows w inside _ k (c.visits.invariant.root w k inside low has);
  sound = c.visit_procedure.ensures.spreads.sound c.visits.invariant.sound;
}

pub returns-clause-exact : goal.returns-clause-exact
returns-clause-exact g c w p k inside low =
    let group = group_of c.args.frame.now g.row.W in
    let is = c.requires.frame in
    let closed = all_closed (IsBroughtClosedAt group c.args.frame.now.paths.now c.args.table.now) (directed_shape c.args.frame.now.links.now)
    (source_procedure (directed_shape c.args.frame.now.links.now)) c.visits.brought c.visits.dirty
    c.visits.invariant.settled c.in_default.ensures.0 in (
      λ has. c.visits.invariant.sound w inside p k low has,
      all_brought is.numbered (group.transfer w) c.args.frame.now.paths.now is.paths (preserved_word c.args.table.now w) (generated_word c.args.table.now w)
          (brought_word c.visits.brought w)
          (λ x k low flag. (c.requires.complete w x k inside low flag).0) (λ x k low flag. (c.requires.complete w x k inside low flag).1)
          (λ edge there. closed edge there w inside) k low (λ has. c.visits.invariant.root w k inside low has) p,
    )

pub visits-init : goal.visits-init
visits-init g c = record {
  count = ap length c.mark_all.ensures ∙ (length-replicate (length c.args.dirty.now) true ∙ c.requires.dirty_count);
  settled = λ edge there.
      let from = source_procedure (directed_shape c.args.frame.now.links.now) edge in
      let low = c.requires.frame.numbered.procedure_in_range _ (c.requires.frame.numbered.edge_in_range edge there).0 in
      inr (ap (λ (d : List Bool). get_or d from false) c.mark_all.ensures
      ∙ get_or-replicate (length c.args.dirty.now) from true false (omega (arith, low, c.requires.dirty_count)));
  root = c.begin_brought.ensures.root;
  sound = c.begin_brought.ensures.sound;
}
