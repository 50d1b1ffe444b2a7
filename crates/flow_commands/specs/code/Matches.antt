-- What the matches hold once `clap` has checked them.
use Rattle.std.specs.Prelude.{List, codes}
use Rattle.clap.specs.Words.{Row}
use Rattle.flow_runs.specs.code.Matches.{HoldsKind, HoldsNumber}
use Rattle.flow_commands.specs.Kinds.{kinds}

-- They hold each of the options.
pub record HoldsOptions (rows : List Row) : Type 0 where
  pub workers : HoldsNumber rows (codes "workers") 64
  pub cut : HoldsNumber rows (codes "cut") 4096
  pub show : HoldsKind kinds rows (codes "show")
