use Rattle.std.proofs.Common.{arith, ◌∙◌}
use Rattle.gk_solve.specs.Tables.Groups.{group_of}
use Rattle.gk_solve.proofs.visits.SummaryVisits.{by_edges, has_size, summaries_on}
use Rattle.gk_solve.proofs.visits.Visits.{spreads_more}
use Rattle.gk_solve.proofs.group.visit_point.Goals as goal

pub visit_calls-requires : goal.visit_calls-requires
visit_calls-requires g c = (
  has_size g.row.W c.requires.frame.narrow,
  (
    c.requires.frame,
    (
      omega (arith, c.requires.count),
      (
        c.visit_steps.ensures.spreads.count ∙ c.requires.dirty_count,
        (c.requires.within, (c.if-frame-at.true, c.visit_steps.ensures.spreads.sound c.requires.sound)),
      ),
    ),
  ),
)

pub returns-then-frame-at-clause-spreads : goal.returns-then-frame-at-clause-spreads
returns-then-frame-at-clause-spreads g c =
    spreads_more (summaries_on g.row.W) _ _ _ _ _ _ c.visit_steps.ensures.spreads c.visit_calls.ensures.spreads

pub returns-then-frame-at-clause-settled : goal.returns-then-frame-at-clause-settled
returns-then-frame-at-clause-settled g c =
    by_edges (group_of c.args.frame.now g.row.W) c.args.frame.now.paths.now c.visit_calls.new.table c.visit_calls.new.dirty c.args.at
    (λ y there. c.visit_calls.ensures.spreads.settled _ there (c.visit_steps.ensures.settled y there)) c.visit_calls.ensures.settled
