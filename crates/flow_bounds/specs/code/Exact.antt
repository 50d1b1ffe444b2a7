-- When a frame's tables tell exactly what statements do with a bit, and words on ways that rest on them.
use Rattle.std.specs.Prelude.{◌≡◌, ◌<◌, ℕ, true, false, List, length, slice_index}
use Rattle.bit_rows.specs.Words.{has_bit}
use Rattle.flow_graph.specs.declared.edge.Edge.TheVariants.{Step}
use Rattle.flow_graph.specs.Paths.{IsEdge, Transfer}
use Rattle.summary_equations.specs.Equations.{Brought, Entered, Generated, Preserved}
use Rattle.flow_bounds.specs.Clauses.{IsPointInside, is_inside, shape_in, step_gens, step_kills}
use Rattle.flow_regions.specs.code.Ways.{point_in, procedure_in}
use Rattle.flow_bounds.specs.declared.frame.Frame.{Frame}
use Rattle.flow_regions.specs.declared.way.Branch.{Branch}
use Rattle.flow_regions.specs.declared.way.Way.{Way}

-- The tables are those of a transfer: of steps inside they tell what is done with the bit, and steps outside do nothing with it.
pub record IsExact (frame : Frame) (transfer : Transfer) (bit : ℕ) : Type 0 where
  pub gens : (x y : ℕ) → IsEdge (shape_in frame) (Step x y) → IsPointInside frame x → step_gens frame x y bit ≡ transfer.gen x y
  pub kills : (x y : ℕ) → IsEdge (shape_in frame) (Step x y) → IsPointInside frame x → step_kills frame x y bit ≡ transfer.kill x y
  pub none_generated : (x y : ℕ) → IsEdge (shape_in frame) (Step x y) → is_inside frame ((shape_in frame).procedure_of x) ≡ false
      → transfer.gen x y ≡ false
  pub none_killed : (x y : ℕ) → IsEdge (shape_in frame) (Step x y) → is_inside frame ((shape_in frame).procedure_of x) ≡ false
      → transfer.kill x y ≡ false
  pub boundary : transfer.boundary ≡ has_bit frame.boundary bit

-- what the words of a way tell of a bit
pub record TellsWay (frame : Frame) (transfer : Transfer) (bit x kept made : ℕ) : Type 0 where
  pub preserved : has_bit kept bit ≡ true → Preserved (shape_in frame) transfer.kill x
  pub generated : has_bit made bit ≡ true → Generated (shape_in frame) transfer x

-- They tell it of all bits of which the tables are exact.
abbrev pub AreWordsAt : Frame → ℕ → ℕ → ℕ → Type 0
AreWordsAt frame x kept made = (transfer : Transfer) (bit : ℕ) → bit < 64 → IsExact frame transfer bit → TellsWay frame transfer bit x kept made

-- So do those of the first ways.
pub record AreWayWords (frame : Frame) (ways : List Way) (until : ℕ) (kept made : List ℕ) : Type 0 where
  pub kept_count : length kept ≡ until
  pub made_count : length made ≡ until
  pub each : (j : ℕ) → j < until → AreWordsAt frame (point_in ways j) (slice_index kept j) (slice_index made j)

-- the bits of a word are brought to a procedure
abbrev pub IsBroughtWord : Frame → ℕ → ℕ → Type 0
IsBroughtWord frame procedure word = (transfer : Transfer) (bit : ℕ) → bit < 64 → IsExact frame transfer bit → has_bit word bit ≡ true
    → Brought (shape_in frame) transfer procedure

-- the words of the first branches
pub record AreBranchWords (frame : Frame) (tree : List Branch) (until : ℕ) (words : List ℕ) : Type 0 where
  pub count : length words ≡ until
  pub each : (j : ℕ) → j < until → IsBroughtWord frame (procedure_in tree j) (slice_index words j)

-- the bits of a word are preserved by the calls of a procedure
abbrev pub IsThroughWord : Frame → ℕ → ℕ → Type 0
IsThroughWord frame procedure word = (transfer : Transfer) (bit : ℕ) → bit < 64 → IsExact frame transfer bit → has_bit word bit ≡ true
    → Preserved (shape_in frame) transfer.kill ((shape_in frame).exit procedure)

-- the bits of a word are brought to a procedure that is entered
abbrev pub IsHungWord : Frame → ℕ → ℕ → Type 0
IsHungWord frame procedure word = (transfer : Transfer) (bit : ℕ) → bit < 64 → IsExact frame transfer bit → has_bit word bit ≡ true
    → Entered (shape_in frame) procedure × Brought (shape_in frame) transfer procedure
