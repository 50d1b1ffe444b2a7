-- A text: its lines, and the line and column of a place in it.
use Rattle.std.specs.Prelude.{ℕ, ◌+◌, Bool, not, List, [], ◌∷◌, length, count_by, take_while, reverse, ◌==◌, if◌then◌else◌}
use Rattle.std.specs.List.{onto_first}

abbrev pub is_line_end : ℕ → Bool
is_line_end b = b == 10

abbrev pub no_line_end : ℕ → Bool
no_line_end b = not (is_line_end b)

-- The lines of a text. Each ends with its line feed, which the last one may lack.
abbrev pub lines : List ℕ → List (List ℕ)
lines [] = []
lines (b ∷ bs) = if is_line_end b then (b ∷ []) ∷ lines bs else onto_first b (lines bs)

-- The line and the column of the place behind these bytes, both from 1, the column in bytes.
abbrev pub line_after : List ℕ → ℕ
line_after before = 1 + count_by is_line_end before

abbrev pub column_after : List ℕ → ℕ
column_after before = 1 + length (take_while no_line_end (reverse before))
