-- A set in lines: on each as many names as fit into some columns, in their order. A comma stands behind each name but the last, at the end of a
-- line too, and two blanks begin each line but the first. Only a line with one name alone may be longer than these columns.
use Rattle.std.specs.Prelude.{ℕ, ◌+◌, Bool, List, [], ◌∷◌, ◌++◌, length, nat_lt, if◌then◌else◌, codes}
use Rattle.text_pieces.specs.Strings.{escaped}

-- at most so many signs stand on a line
abbrev pub columns : ℕ
columns = 60

-- how many signs a text has between quotes
abbrev pub width : List ℕ → ℕ
width text = length (escaped text)

-- whether a name fits behind the last one of a line, with a comma and a blank before it and a comma behind it
abbrev pub fits : ℕ → ℕ → Bool
fits column signs = nat_lt (column + 2 + signs) columns

-- the line that has names so far, with those behind them, and all further lines
abbrev pub lines_from : List ℕ → List (List ℕ) → List (List ℕ)
lines_from line [] = line ∷ []
lines_from line (name ∷ names) =
    if fits (width line) (width name) then lines_from (line ++ codes ", " ++ name) names
    else (line ++ codes ",") ∷ lines_from (codes "  " ++ name) names

-- the lines of a set behind what the first one begins with; `-` where it has no names
abbrev pub set_lines : List ℕ → List (List ℕ) → List (List ℕ)
set_lines head [] = (head ++ codes "-") ∷ []
set_lines head (name ∷ names) = lines_from (head ++ name) names

-- the same, with no line where it has no names
abbrev pub lines_if_any : List ℕ → List (List ℕ) → List (List ℕ)
lines_if_any head [] = []
lines_if_any head (name ∷ names) = lines_from (head ++ name) names
