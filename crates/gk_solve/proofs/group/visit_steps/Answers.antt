use Rattle.std.proofs.Common.{get_or, arith, ◌∙◌}
use Rattle.std.proofs.lemmas.List.Elements.{Contains-get_or}
use Rattle.flow_graph.specs.declared.edge.Edge.TheVariants.{Step}
use Rattle.flow_graph.specs.Paths.{IsEdge}
use Rattle.flow_links.specs.Shapes.{directed_shape}
use Rattle.gk_solve.specs.Tables.Groups.{IsSummarySettled, group_of}
use Rattle.gk_solve.proofs.visits.Listed.{each_listed, listed_more}
use Rattle.gk_solve.proofs.visits.SummaryVisits.{has_size, summaries_on}
use Rattle.gk_solve.proofs.visits.Visits.{spreads_more}
use Rattle.gk_solve.proofs.group.visit_steps.Goals as goal

pub visit_step-requires : goal.visit_step-requires
visit_step-requires g c =
    let list = c.steps_from-steps.result.now in
    let there =
    (c.steps_from-steps.ensures.listed (get_or list c.loop-to.to-index 0)).0 (Contains-get_or list c.loop-to.to-index 0 c.loop-to-test.true) in (
      has_size g.row.W c.requires.frame.narrow,
      (
        c.requires.frame,
        (
          omega (arith, c.requires.count),
          (
            c.loop-to.invariant.spreads.count ∙ c.requires.dirty_count,
            (c.requires.path, (there, c.loop-to.invariant.spreads.sound c.requires.sound)),
          ),
        ),
      ),
    )

pub loop-to-preserved : goal.loop-to-preserved
loop-to-preserved g c =
    let shape = directed_shape c.args.frame.now.links.now in
    record {
      spreads = spreads_more (summaries_on g.row.W) _ _ _ _ _ _ c.loop-to.invariant.spreads c.visit_step.ensures.spreads;
      done = listed_more (λ y. IsEdge shape (Step c.args.at y))
          (λ y. IsSummarySettled (group_of c.args.frame.now g.row.W) c.args.frame.now.paths.now c.loop-to.table c.loop-to.dirty (Step c.args.at y))
          (λ y. IsSummarySettled (group_of c.args.frame.now g.row.W) c.args.frame.now.paths.now c.visit_step.new.table c.visit_step.new.dirty
          (Step c.args.at y))
          c.steps_from-steps.result.now c.loop-to.to-index 0 c.loop-to-test.true (λ y there. (c.steps_from-steps.ensures.listed y).0 there)
          (λ y there before. c.visit_step.ensures.spreads.settled (Step c.args.at y) there before)
          c.loop-to.invariant.done c.visit_step.ensures.settled;
    }

pub returns-clause-settled : goal.returns-clause-settled
returns-clause-settled g c y there =
    each_listed
    (λ y. IsSummarySettled (group_of c.args.frame.now g.row.W) c.args.frame.now.paths.now c.loop-to.table c.loop-to.dirty (Step c.args.at y))
    c.steps_from-steps.result.now 0 c.loop-to.to-index (omega arith) (λ j below. c.loop-to.invariant.done j 0 below) y
    ((c.steps_from-steps.ensures.listed y).1 there)
