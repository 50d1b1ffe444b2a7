use Rattle.std.proofs.Common.{◌<◌, length, arith, ap, ◌∙◌}
use Rattle.gk_solve.specs.Tables.Groups.{group_of}
use Rattle.gk_solve.specs.Tables.Words.{step_statement}
use Rattle.gk_solve.proofs.edges.GroupLemmas.{statement_low, step_preserved, step_generated, step_keeps_of, step_makes_of}
use Rattle.gk_solve.proofs.visits.SummaryVisits.{has_size, step_settled}
use Rattle.gk_solve.proofs.group.visit_step.Goals as goal

pub across_step-more-requires : goal.across_step-more-requires
across_step-more-requires g c = (
  has_size g.row.W c.requires.frame.narrow,
  (
    c.requires.frame,
    statement_low g.row.W c.args.frame.now c.requires.frame c.args.at c.args.to c.statement_point-point.result c.requires.there
        (c.statement_point-point.ensures ∙ ap (λ b. step_statement b c.args.at c.args.to) c.direction.ensures),
  ),
)

pub put_summary-requires : goal.put_summary-requires
put_summary-requires g c =
    let is = c.requires.frame in
    let ends = is.numbered.edge_in_range _ c.requires.there in
    let within : c.args.at < length c.args.table.now = omega (arith, ends.0, c.requires.count) in
    let point_is = c.statement_point-point.ensures ∙ ap (λ b. step_statement b c.args.at c.args.to) c.direction.ensures in (
      has_size g.row.W is.narrow,
      (
        c.requires.count,
        (
          c.requires.dirty_count,
          (
            ends.1,
            (
              step_keeps_of g.row.W c.args.frame.now is c.args.table.now c.requires.sound c.args.at c.args.to c.statement_point-point.result
                  c.requires.there point_is c.requires.path within c.index-table-at.result c.across_step-more.result c.index-table-at.is
                  c.across_step-more.ensures.preserved c.across_step-more.ensures.generated,
              step_makes_of g.row.W c.args.frame.now is c.args.table.now c.requires.sound c.args.at c.args.to c.statement_point-point.result
                  c.requires.there point_is c.requires.path within c.index-table-at.result c.across_step-more.result c.index-table-at.is
                  c.across_step-more.ensures.preserved c.across_step-more.ensures.generated,
            ),
          ),
        ),
      ),
    )

pub returns-clause-settled : goal.returns-clause-settled
returns-clause-settled g c =
    let is = c.requires.frame in
    let ends = is.numbered.edge_in_range _ c.requires.there in
    let within : c.args.at < length c.args.table.now = omega (arith, ends.0, c.requires.count) in
    let point_is = c.statement_point-point.ensures ∙ ap (λ b. step_statement b c.args.at c.args.to) c.direction.ensures in
    step_settled (group_of c.args.frame.now g.row.W)
    c.args.frame.now.paths.now c.args.at c.args.to c.args.table.now c.put_summary.new.table c.put_summary.new.dirty c.across_step-more.result
    (step_preserved g.row.W c.args.frame.now is c.args.table.now c.requires.sound c.args.at c.args.to c.statement_point-point.result c.requires.there
    point_is c.requires.path within c.index-table-at.result c.across_step-more.result c.index-table-at.is c.across_step-more.ensures.preserved
    c.across_step-more.ensures.generated)
    (step_generated g.row.W c.args.frame.now is c.args.table.now c.requires.sound c.args.at c.args.to c.statement_point-point.result c.requires.there
    point_is c.requires.path within c.index-table-at.result c.across_step-more.result c.index-table-at.is c.across_step-more.ensures.preserved
    c.across_step-more.ensures.generated)
    c.put_summary.ensures.same c.put_summary.ensures.preserved_added c.put_summary.ensures.generated_added
