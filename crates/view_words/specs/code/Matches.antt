-- What the matches hold once `clap` has checked them.
use Rattle.std.specs.Prelude.{List, codes}
use Rattle.clap.specs.Words.{Row}
use Rattle.flow_runs.specs.Words.{sizes}
use Rattle.flow_runs.specs.code.Matches.{HoldsKind, HoldsNumber}
use Rattle.view_words.specs.Kinds.{formats}

-- They hold each of the options that have a default.
pub record HoldsOptions (rows : List Row) : Type 0 where
  pub workers : HoldsNumber rows (codes "workers") 64
  pub cut : HoldsNumber rows (codes "cut") 4096
  pub format : HoldsKind formats rows (codes "format")
  pub limits : HoldsKind sizes rows (codes "limits")
