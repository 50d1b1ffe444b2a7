-- How the code writes a set in lines, name by name: names stand as they do between quotes.
use Rattle.std.specs.Prelude.{◌≡◌, ℕ, ◌+◌, Bool, true, false, List, [], ◌∷◌, ◌++◌, length, map, filter, if◌then◌else◌, codes}
use Rattle.std.specs.List.{range_with_len}
use Rattle.point_sets.specs.SetLines.{fits}
use Rattle.point_sets.specs.code.PointSets.{shows}
use Rattle.point_sets.specs.declared.lines.Line.{Line}
use Rattle.point_sets.specs.declared.point_set.PointSet.{PointSet}
use Rattle.text_pieces.specs.Pieces.{Outlet, Takes}
use Rattle.text_pieces.specs.code.Lists.{text_at}

-- what is written of a name behind a line
abbrev pub name_on : Line → List ℕ → List ℕ
name_on line name =
    if line.others then (if fits line.column (length name) then codes ", " ++ name else codes ",\\l  " ++ name) else name

-- at which column the name ends
abbrev pub column_behind : Line → List ℕ → ℕ
column_behind line name =
    if line.others then (if fits line.column (length name) then line.column + 2 + length name else 2 + length name) else line.column + length name

-- the line on which it stands
abbrev pub with_name : Line → List ℕ → Line
with_name line name = record { column = column_behind line name; others = true }

-- what is written of names behind a line, and on which line the last one stands
abbrev pub names_on : Line → List (List ℕ) → List ℕ
names_on line [] = []
names_on line (name ∷ names) = name_on line name ++ names_on (with_name line name) names

abbrev pub line_behind : Line → List (List ℕ) → Line
line_behind line [] = line
line_behind line (name ∷ names) = line_behind (with_name line name) names

-- The names were written behind a line, and the last one stands on this line.
pub record Lays (names : List (List ℕ)) (line : Line) (old new : Outlet) (last : Line) : Type 0 where
  pub taken : Takes old new (names_on line names)
  pub is_last : last ≡ line_behind line names

-- the texts of those numbers that pass a test, among so many from the first on
abbrev pub names_that : (ℕ → Bool) → List (List ℕ) → ℕ → ℕ → List (List ℕ)
names_that test texts first count = map (text_at texts) (filter test (range_with_len first count))

-- the texts of those bits that are shown
abbrev pub names_among : PointSet → List (List ℕ) → ℕ → ℕ → List (List ℕ)
names_among set = names_that (shows set)

-- the line on which the first name is still to come
abbrev pub blank_line : ℕ → Line
blank_line column = record { column = column; others = false }

-- a line with names, or with `-` where there are none
abbrev pub ended : Line → List ℕ
ended line = if line.others then [] else codes "-"

-- what is written of a set behind the columns of its first line
abbrev pub set_from : ℕ → List (List ℕ) → List ℕ
set_from column names =
    names_on (blank_line column) names ++ ended (line_behind (blank_line column) names)
