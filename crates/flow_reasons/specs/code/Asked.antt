-- What is asked of an expression at a point.
use Rattle.std.specs.Prelude.{◌≡◌, ◌<◌, false, length}
use Rattle.flow_graph.specs.Points.{point_count}
use Rattle.flow_graph.specs.Universes.{expressions}
use Rattle.flow_graph.specs.declared.analysis.Analysis.TheVariants.{Live, Avail}
use Rattle.gen_kill.specs.Selections.{all_bits}
use Rattle.tac_program.specs.Programs.{Program}
use Rattle.tac_program.specs.Sound.{IsSound}
use Rattle.flow_reasons.specs.declared.holders.Asked.{Asked}

-- the problems and the ways are of one program, in which the expression and the point stand
pub record IsAskedOf (program : Program) (asked : Asked) : Type 0 where
  pub sound : IsSound program
  pub graph_is : asked.graph.now ≡ program
  pub live_is : asked.live.now ≡ all_bits program Live
  pub available_is : asked.available.now ≡ all_bits program Avail
  pub ways_are : asked.ways.now.linked ≡ record { program = program; backward = false }
  pub expression : asked.expression < length (expressions program)
  pub at : asked.at < point_count program
