-- Basic blocks: runs of points that control enters at the first one, and goes through one after the other (Aho, Lam, Sethi, Ullman, 2nd
-- edition, 8.4.1 and 9.2.4). A call stands in a block of its own, and so does a procedure's end.
use Rattle.std.specs.Prelude.{ℕ, suc, ◌-◌, Bool, true, false, not, ◌&&◌, List, option_map, unwrap_or, nat_eq}
use Rattle.std.specs.List.{find, range_with_len}
use Rattle.flow_graph.specs.Points.{end_point, kind_at, place_of, procedure_at}
use Rattle.flow_views.specs.Views.{labels_at}
use Rattle.point_sets.specs.Sets.{has_behind}
use Rattle.tac_program.specs.Programs.{Program}
use Rattle.tac_program.specs.declared.program.StmtKind.{StmtKind}
use Rattle.tac_program.specs.declared.program.StmtKind.TheVariants as kind
use Rattle.text_pieces.specs.code.Lists.{some_stand}

-- whether control goes from a statement to the next one, whatever it does: no test, no jump, no call, no return
abbrev pub is_plain : StmtKind → Bool
is_plain (kind.Copy x y) = true
is_plain (kind.Unary x op y) = true
is_plain (kind.Binary op x y z) = true
is_plain (kind.Goto label) = false
is_plain (kind.If y label) = false
is_plain (kind.IfFalse y label) = false
is_plain (kind.IfCompare op label y z) = false
is_plain (kind.Call callees) = false
is_plain kind.Return = false
is_plain (kind.Read x) = true
is_plain (kind.Print y) = true
is_plain kind.Skip = true

abbrev pub goes_on : Program → ℕ → Bool
goes_on program point = unwrap_or (option_map is_plain (kind_at program point)) false

-- Whether a point goes on the block of the point before it in its procedure: that one has a plain statement, and it itself has no label and is
-- neither a call nor the procedure's end.
abbrev pub goes_on_block : Program → ℕ → Bool
goes_on_block program point =
    not (nat_eq (place_of program point).place 0)
    && (goes_on program (point - 1) && (not (some_stand (labels_at program point)) && has_behind program point))

-- Every other point begins a block.
abbrev pub is_leader : Program → ℕ → Bool
is_leader program point = not (goes_on_block program point)

-- the points behind one in its procedure
abbrev pub points_behind : Program → ℕ → List ℕ
points_behind program point = range_with_len (suc point) (end_point program (procedure_at program point) - point)

-- The point behind a block that begins at a leader: the next leader of the procedure, or behind its end.
abbrev pub block_end : Program → ℕ → ℕ
block_end program leader =
    unwrap_or (find (is_leader program) (points_behind program leader)) (suc (end_point program (procedure_at program leader)))

-- its points, the last of them, and whether a set of its own stands behind that one's statement
abbrev pub block_points : Program → ℕ → List ℕ
block_points program leader = range_with_len leader (block_end program leader - leader)

abbrev pub block_last : Program → ℕ → ℕ
block_last program leader = block_end program leader - 1
