-- What a problem keeps beside its graph.
use Rattle.std.specs.Prelude.{ℕ, List, Option}
use Rattle.flow_graph.specs.Problems.{may_shape}
use Rattle.flow_graph.specs.WellFormed.{IsWellFormed}
use Rattle.flow_graph.specs.declared.analysis.Analysis.{Analysis}
use Rattle.gen_kill.specs.Selections.{Selection}
use Rattle.gen_kill.specs.code.Columns.{IsChosenOf}
use Rattle.gen_kill.specs.code.Effects.{AreDependentWords, AreEffects}
use Rattle.gen_kill.specs.declared.effect.Effect.{Effect}
use Rattle.tac_program.specs.Programs.{Program}

-- the bits of an analysis that are chosen, or all
abbrev pub selected : Program → Analysis → Option (List ℕ) → Selection
selected program analysis chosen = record { program = program; analysis = analysis; chosen = chosen }

-- what each statement does, and in which words columns depend on each variable
pub record IsKept (selection : Selection) (effects : List Effect) (words : List ℕ) (width : ℕ) : Type 0 where
  pub effects_are : AreEffects selection effects
  pub dependent : AreDependentWords selection words width
  pub formed : IsWellFormed (may_shape selection.program selection.analysis)
  pub chosen : IsChosenOf selection.program selection.analysis selection.chosen
