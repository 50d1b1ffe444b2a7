-- The problems and ways that reasons keep.
use Rattle.std.specs.Prelude.{◌≡◌, true, false}
use Rattle.flow_graph.specs.declared.analysis.Analysis.TheVariants.{Live, Avail, Busy}
use Rattle.flow_links.specs.Shapes.{LinkedProgram}
use Rattle.gen_kill.specs.Selections.{Selection, all_bits}
use Rattle.tac_program.specs.Programs.{Program}
use Rattle.tac_program.specs.Sound.{IsSound}

pub record AreProblems (program : Program) (live available busy : Selection) (forward backward : LinkedProgram) : Type 0 where
  pub sound : IsSound program
  pub live_is : live ≡ all_bits program Live
  pub available_is : available ≡ all_bits program Avail
  pub busy_is : busy ≡ all_bits program Busy
  pub forward_is : forward ≡ record { program = program; backward = false }
  pub backward_is : backward ≡ record { program = program; backward = true }
