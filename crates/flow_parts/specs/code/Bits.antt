-- The bits that a part of a report asks.
use Rattle.std.specs.Prelude.{◌≡◌, ℕ, length}
use Rattle.flow_graph.specs.Universes.{bits}
use Rattle.flow_graph.specs.declared.analysis.Analysis.TheVariants.{Reach, Live, Avail, Busy}
use Rattle.flow_parts.specs.Cuts.{is_in_cut}
use Rattle.report_answers.specs.code.Chosen.{wants}
use Rattle.report_answers.specs.declared.chosen_bits.ChosenBits.{ChosenBits}
use Rattle.tac_program.specs.Programs.{Program}

-- The bits of a part are asked, and no others: values at the beginning have the numbers of their variables among the definitions.
pub record AreOfPart (program : Program) (count part : ℕ) (chosen : ChosenBits) : Type 0 where
  pub unset : (variable : ℕ) → wants chosen Reach variable ≡ is_in_cut (length program.variable_names) count part variable
  pub dead : (variable : ℕ) → wants chosen Live variable ≡ is_in_cut (length program.variable_names) count part variable
  pub computed : (bit : ℕ) → wants chosen Avail bit ≡ is_in_cut (bits program Avail) count part bit
  pub busy : (bit : ℕ) → wants chosen Busy bit ≡ is_in_cut (bits program Busy) count part bit
