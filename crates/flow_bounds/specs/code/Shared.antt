-- What holds of what all groups share, and of the bounds of a group.
use Rattle.std.specs.Prelude.{◌≡◌, ℕ, List, length}
use Rattle.flow_graph.specs.Analyses.{is_backward}
use Rattle.flow_links.specs.Shapes.{LinkedProgram, directed_shape}
use Rattle.gen_kill.specs.Selections.{Selection, column_count}
use Rattle.flow_bounds.specs.Asked.{AreAsksOf}
use Rattle.flow_bounds.specs.code.Bounded.{AreBounding}
use Rattle.flow_bounds.specs.code.Groups.{AreAbove, AreBelow, ArePaths, AreTables}
use Rattle.flow_regions.specs.code.Lists.{AreLists}
use Rattle.flow_regions.specs.code.Ranks.{AreRanked}
use Rattle.flow_regions.specs.code.Regions.{ArePointsOf}
use Rattle.flow_regions.specs.code.Touches.{AreTouches}
use Rattle.flow_bounds.specs.declared.shared.Base.{Base}
use Rattle.flow_bounds.specs.declared.shared.Shared.{Shared}
use Rattle.flow_bounds.specs.declared.answers.Asking.{Asking}
use Rattle.flow_bounds.specs.declared.answers.Bounds.{Bounds}

-- the program of a problem, in its direction
abbrev pub direction_of : Selection → LinkedProgram
direction_of selection = record { program = selection.program; backward = is_backward selection.analysis }

-- what is made once for all groups of a problem
pub record IsBase (selection : Selection) (linked : LinkedProgram) (base : Base) : Type 0 where
  pub touches : AreTouches selection base.marked.items base.touches
  pub listed : ArePointsOf linked base.listed
  pub ranked : AreRanked (directed_shape linked) base.ranks.items
  pub ranks_count : length base.ranks.items ≡ (directed_shape linked).procedures
  pub tables : AreTables linked base.tables

-- All is of one problem.
pub record IsShared (shared : Shared) : Type 0 where
  pub linked : shared.links.now ≡ direction_of shared.problem.now
  pub paths : ArePaths shared.links.now shared.paths.now
  pub base : IsBase shared.problem.now shared.links.now shared.base.now

-- Words of two frames bound columns of a problem from above and from below.
pub record AreBounds (selection : Selection) (columns : List ℕ) (bounds : Bounds) : Type 0 where
  pub above_linked : bounds.above.links.now ≡ direction_of selection
  pub above : AreAbove selection columns bounds.above
  pub upper : AreBounding bounds.above bounds.upper
  pub below_linked : bounds.below.links.now ≡ direction_of selection
  pub below : AreBelow selection columns bounds.below
  pub lower : AreBounding bounds.below bounds.lower

-- The bits that are asked are of a problem, and the lists by column have a place for each.
pub record IsAsking (asking : Asking) : Type 0 where
  pub shared : IsShared asking.shared
  pub asks : AreAsksOf asking.shared.problem.now asking.asks.now
  pub lists : AreLists (column_count asking.shared.problem.now) asking.by_column.now
