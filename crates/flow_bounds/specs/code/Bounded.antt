-- What words say that a frame's clauses gave.
use Rattle.std.specs.Prelude.{◌≡◌, ◌<◌, ℕ, true, List, [], length}
use Rattle.flow_bounds.specs.Clauses.{Clause, always_cell, cell_count}
use Rattle.flow_bounds.specs.Rules.{AreClosed, Follows, HasBit}
use Rattle.flow_bounds.specs.code.Frames.{Adds}
use Rattle.flow_bounds.specs.declared.bounding.Bounded.{Bounded}
use Rattle.flow_bounds.specs.declared.frame.Frame.{Frame}
use Rattle.flow_bounds.specs.declared.rule.Rule.{Rule}

-- The words have what follows by rules that tell the clauses of the frame, from the one cell that always has each bit; and all of it, if they are
-- closed.
pub record AreBounding (frame : Frame) (bounded : Bounded) : Type 0 where
  pub rules : List Rule
  pub given : List ℕ
  pub tells : Adds (cell_count frame) (Clause frame) [] rules
  pub only : (bit cell : ℕ) → HasBit given cell bit → cell ≡ always_cell frame
  pub count : length bounded.words.items ≡ cell_count frame
  pub always : (bit : ℕ) → bit < 64 → HasBit bounded.words.items (always_cell frame) bit
  pub follows : (cell bit : ℕ) → HasBit bounded.words.items cell bit → Follows rules given cell bit
  pub closed : bounded.closed ≡ true → AreClosed rules bounded.words.items
