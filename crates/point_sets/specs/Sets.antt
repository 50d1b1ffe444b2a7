-- The sets of an analysis around a statement: the one before it, which the table has, and the one behind it; and which bits of them are shown.
use Rattle.std.specs.Prelude.{ℕ, Bool, true, false, not, ◌&&◌, ◌||◌, List, codes, option_map, unwrap_or, if◌then◌else◌}
use Rattle.std.specs.List.{filter, list_all, list_any, range_with_len}
use Rattle.tac_program.specs.Programs.{Program}
use Rattle.flow_graph.specs.Edges.{edges_from}
use Rattle.flow_graph.specs.Paths.{target_of}
use Rattle.flow_graph.specs.Points.{kind_at}
use Rattle.flow_graph.specs.Transfers.{gens, is_in_boundary, kills}
use Rattle.flow_graph.specs.Universes.{bits}
use Rattle.flow_graph.specs.declared.analysis.Analysis.{Analysis}
use Rattle.flow_graph.specs.declared.analysis.Analysis.TheVariants.{Reach, Live, Avail, Busy}
use Rattle.flow_team.specs.Tables.{Facts}
use Rattle.tac_program.specs.declared.program.StmtKind.{StmtKind}
use Rattle.tac_program.specs.declared.program.StmtKind.TheVariants as kind
use Rattle.point_sets.specs.declared.side.Side.{Side}
use Rattle.point_sets.specs.declared.side.Side.TheVariants.{Before, Behind}

-- what the statement at a point makes of a bit of the set before it: gen ∪ (X − kill)
abbrev pub passes : Program → Analysis → ℕ → ℕ → Bool → Bool
passes program analysis point bit before = gens program analysis point bit || (before && not (kills program analysis point bit))

-- Behind a statement of a forward analysis. Where no valid path leads to the statement none leads behind it, and the set is the same.
abbrev pub passed : Program → Analysis → Facts → ℕ → ℕ → Bool
passed program analysis facts point bit =
    if facts.has_path point then passes program analysis point bit (facts.contains point bit) else facts.contains point bit

-- Behind a statement that is no call. In a backward analysis it is the meet of the sets at the points to which control may go next.
abbrev pub behind : Program → Analysis → Facts → ℕ → ℕ → Bool
behind program Reach facts point bit = passed program Reach facts point bit
behind program Live facts point bit = list_any (λ edge. facts.contains (target_of edge) bit) (edges_from program point)
behind program Avail facts point bit = passed program Avail facts point bit
behind program Busy facts point bit = list_all (λ edge. facts.contains (target_of edge) bit) (edges_from program point)

-- the set before the statement at a point, or behind it
abbrev pub set_on : Side → Program → Analysis → Facts → ℕ → ℕ → Bool
set_on Before program analysis facts point = facts.contains point
set_on Behind program analysis facts point = behind program analysis facts point

-- The bits of a set that are shown, by number: all of them, or all but the dummy definitions, which the boundary has.
abbrev pub is_bit_shown : Program → Analysis → Bool → ℕ → Bool
is_bit_shown program analysis hides_entry bit = not (hides_entry && is_in_boundary program analysis bit)

abbrev pub shown_bits : Program → Analysis → Bool → (ℕ → Bool) → List ℕ
shown_bits program analysis hides_entry set =
    filter (λ bit. set bit && is_bit_shown program analysis hides_entry bit) (range_with_len 0 (bits program analysis))

-- `ANALYSIS` and this stand before a set
abbrev pub side_text : Side → List ℕ
side_text Before = codes ": "
side_text Behind = codes " behind: "

-- whether a statement is a call
abbrev pub is_call : StmtKind → Bool
is_call (kind.Copy x y) = false
is_call (kind.Unary x op y) = false
is_call (kind.Binary op x y z) = false
is_call (kind.Goto label) = false
is_call (kind.If y label) = false
is_call (kind.IfFalse y label) = false
is_call (kind.IfCompare op label y z) = false
is_call (kind.Call callees) = true
is_call kind.Return = false
is_call (kind.Read x) = false
is_call (kind.Print y) = false
is_call kind.Skip = false

abbrev pub calls_at : Program → ℕ → Bool
calls_at program point = unwrap_or (option_map is_call (kind_at program point)) false

-- Whether a set of its own stands behind a point's statement: behind a call it stands at the next point, and at a procedure's end there is
-- no statement.
abbrev pub has_behind : Program → ℕ → Bool
has_behind program point = unwrap_or (option_map (λ k. not (is_call k)) (kind_at program point)) false
