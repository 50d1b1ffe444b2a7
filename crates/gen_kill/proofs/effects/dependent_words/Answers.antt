use Rattle.std.proofs.Common.{◌≤◌, length, ap, arith}
use Rattle.std.proofs.lemmas.Grind.{common_steps}
use Rattle.tac_program.specs.Programs.{Program}
use Rattle.flow_graph.specs.declared.analysis.Analysis.TheVariants.{Live}
use Rattle.gen_kill.proofs.effects.dependent_words.Goals as goal
use Rattle.tac_program.specs.Limits.{most_variables}
use Rattle.tac_program.specs.declared.limits.Limits.TheVariants.{Large}

pub blank-requires-clause-rows : goal.blank-requires-clause-rows
blank-requires-clause-rows c =
    let few : length c.args.graph.now.variable_names ≤ most_variables Large = c.bits.ensures.few Live in
    omega (arith, few, c.variables-rows.ensures, ap (λ (p : Program). length p.variable_names) c.program.ensures)

pub loop-column-preserved : goal.loop-column-preserved
loop-column-preserved c = grind (arith, common_steps)
