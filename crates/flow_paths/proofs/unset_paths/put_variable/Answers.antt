use Rattle.std.proofs.Common.{◌≡◌, ◌<◌, sym, ap, subst, arith}
use Rattle.std.specs.Prelude.{All}
use Rattle.std.proofs.lemmas.Result.{on_ok_weaker}
use Rattle.flow_graph.specs.declared.analysis.Analysis.TheVariants.{Reach}
use Rattle.flow_graph.specs.Universes.{bits}
use Rattle.report_answers.proofs.queries.Statements.{variables_have_dummies}
use Rattle.gen_kill.specs.Selections.{Selection, column_count}
use Rattle.tac_program.specs.Programs.{Program}
use Rattle.flow_paths.specs.code.UnsetPaths.{IsUnsetUse, IsWitnessed}
use Rattle.flow_paths.proofs.unset_paths.put_variable.Goals as goal

pub of-requires-clause-column : goal.of-requires-clause-column
of-requires-clause-column c =
    let form : Selection = c.args.reaching.problem.now in
    let here : c.args.variable < bits form.program Reach = omega (arith, c.requires.variable, variables_have_dummies form.program) in
    subst (λ (s : Selection). c.args.variable < column_count s) (sym c.requires.form) here

pub put_paths-requires-clause-uses : goal.put_paths-requires-clause-uses
put_paths-requires-clause-uses c =
    subst (λ (p : Program). All (IsUnsetUse p) c.args.uses.now) (sym (ap (λ w. w.form.program) c.in_ok-why.ensures)) c.requires.uses

pub returns-clause-witnessed : goal.returns-clause-witnessed
returns-clause-witnessed c =
    let program_is : c.in_ok-why.why.form.program ≡ c.args.reaching.problem.now.program = ap (λ w. w.form.program) c.in_ok-why.ensures in
    on_ok_weaker c.put_paths.result
    (λ more. subst (λ (p : Program). All (IsWitnessed p) c.args.paths.now.items → All (IsWitnessed p) c.put_paths.new.paths.items) program_is more)
    c.put_paths.ensures.witnessed
