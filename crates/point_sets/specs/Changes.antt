-- What changes from one set of an analysis to another: what came, and what went. Before a statement against the set at the point before it in its
-- procedure, behind it against the set before it.
use Rattle.std.specs.Prelude.{ℕ, ◌-◌, Bool, true, false, not, ◌&&◌, List, codes, nat_eq}
use Rattle.flow_graph.specs.Points.{place_of}
use Rattle.flow_team.specs.Tables.{Facts}
use Rattle.point_sets.specs.declared.side.Side.{Side}
use Rattle.point_sets.specs.declared.side.Side.TheVariants.{Before, Behind}
use Rattle.tac_program.specs.Programs.{Program}

-- what one set has and another lacks
abbrev pub beyond : (ℕ → Bool) → (ℕ → Bool) → ℕ → Bool
beyond these those bit = these bit && not (those bit)

-- what came from an old set to a new one, or what went
abbrev pub changed_from : Bool → (ℕ → Bool) → (ℕ → Bool) → ℕ → Bool
changed_from true old new = beyond new old
changed_from false old new = beyond old new

-- the set at the point before in the same procedure: at the first point of one there is none, and this set is empty
abbrev pub set_ahead : Program → Facts → ℕ → ℕ → Bool
set_ahead program facts point bit = not (nat_eq (place_of program point).place 0) && facts.contains (point - 1) bit

-- the set from which a change goes that leads to a side of a statement
abbrev pub set_against : Side → Program → Facts → ℕ → ℕ → Bool
set_against Before program facts point = set_ahead program facts point
set_against Behind program facts point = facts.contains point

-- `ANALYSIS` and this stand before what came, or went
abbrev pub came_text : Bool → List ℕ
came_text true = codes " came"
came_text false = codes " went"
