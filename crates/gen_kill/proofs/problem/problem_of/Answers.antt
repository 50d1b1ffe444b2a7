use Rattle.std.proofs.Common.{subst}
use Rattle.tac_program.specs.Programs.{Program}
use Rattle.tac_program.specs.Sound.{IsSound}
use Rattle.flow_graph.proofs.graphs.GraphLaws.{may_forms_are_well_formed}
use Rattle.gen_kill.proofs.problem.problem_of.Goals as goal

pub invariant_of-result : goal.invariant_of-result
invariant_of-result c =
    let sound : IsSound c.args.graph.now = subst (λ (p : Program). IsSound p) c.program.ensures c.procs.ensures.sound in
    record {
      effects_are = c.in_ok-effects.ensures;
      dependent = c.in_ok-dependent_words.ensures;
      formed = may_forms_are_well_formed c.args.graph.now c.args.analysis sound;
      chosen = c.requires;
    }
