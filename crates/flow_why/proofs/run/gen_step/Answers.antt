use Rattle.std.proofs.Common.{◌<◌, sym, ◌∙◌, ap, subst}
use Rattle.flow_graph.specs.Directions.{goes_backward}
use Rattle.flow_graph.specs.Points.{point_count}
use Rattle.flow_links.specs.Shapes.{LinkedProgram}
use Rattle.gen_kill.specs.Selections.{column_gens}
use Rattle.flow_why.specs.PointBits.{step_statement}
use Rattle.flow_why.proofs.visits.Reasons.{statement_low}
use Rattle.flow_why.proofs.visits.Statements.{column_gen}
use Rattle.flow_why.proofs.run.gen_step.Goals as goal

pub gens-requires-clause-point : goal.gens-requires-clause-point
gens-requires-clause-point c =
    let b = goes_backward c.direction.result in
    subst (λ n. n < point_count c.args.problem.now.program) (sym c.statement_point-point.ensures)
    (subst (λ (l : LinkedProgram). step_statement b c.args.at c.args.to < point_count l.program) c.requires.column.linked
    (statement_low c.args.frame.now c.requires.frame c.args.at c.args.to b c.requires.there))

pub gen_here-requires-clause-gens : goal.gen_here-requires-clause-gens
gen_here-requires-clause-gens c =
    let form = c.args.problem.now in
    column_gen c.args.frame.now form c.args.column c.requires.column (goes_backward c.direction.result) c.direction.ensures c.args.at c.args.to
    ∙ (ap (λ n. column_gens form n c.args.column) (sym c.statement_point-point.ensures) ∙ (sym c.gens.ensures ∙ c.if-not-gens.false))

pub returns-then-not-gens-clause-visited : goal.returns-then-not-gens-clause-visited
returns-then-not-gens-clause-visited c d gens based =
    let form = c.args.problem.now in
    absurd (cc (
      gens,
      column_gen c.args.frame.now form c.args.column c.requires.column (goes_backward c.direction.result) c.direction.ensures c.args.at c.args.to,
      ap (λ n. column_gens form n c.args.column) (sym c.statement_point-point.ensures),
      c.gens.ensures,
      c.if-not-gens.true,
    ))
