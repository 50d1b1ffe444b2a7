-- What the matches hold once `clap` has checked them.
use Rattle.std.specs.Prelude.{List, codes}
use Rattle.clap.specs.Words.{Row}
use Rattle.flow_runs.specs.Words.{sizes}
use Rattle.flow_runs.specs.code.Matches.{HoldsKind, HoldsNumber}
use Rattle.lint_commands.specs.Kinds.{colorings, forms}

-- They hold the options that have a default.
pub record HoldsOptions (rows : List Row) : Type 0 where
  pub limits : HoldsKind sizes rows (codes "limits")
  pub format : HoldsKind forms rows (codes "format")
  pub color : HoldsKind colorings rows (codes "color")
  pub workers : HoldsNumber rows (codes "workers") 64
