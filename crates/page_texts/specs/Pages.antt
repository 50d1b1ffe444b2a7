-- A page: frame, lines, frame.
use Rattle.std.specs.Prelude.{◌==◌, ℕ, List, [], ◌∷◌, ◌++◌, Option, Some, None, codes, flat_map, map, nat_lt, if◌then◌else◌}
use Rattle.page_texts.specs.Frame.{before, behind}
use Rattle.text_pieces.specs.Strings.{quoted}

-- In lines of JSON `<` stands between quotes alone, and `\u003c` is the same sign there: so no line ends the element in which it stands, or
-- begins a comment or another element in it.
abbrev pub safe_byte : ℕ → List ℕ
safe_byte b = if b == 60 then codes "\\u003c" else b ∷ []

abbrev pub safe : List ℕ → List ℕ
safe lines = flat_map safe_byte lines

-- A title is shown in one line: a control sign of ASCII is a space.
abbrev pub shown_sign : ℕ → ℕ
shown_sign b = if nat_lt b 32 then 32 else b

-- the line of the page's title
abbrev pub title_line : List ℕ → List ℕ
title_line title = codes "{\"type\":\"page\",\"title\":" ++ quoted (map shown_sign title) ++ codes "}\n"

abbrev pub title_lines : Option (List ℕ) → List ℕ
title_lines (Some title) = title_line title
title_lines None = []

-- a page around what stands in its element of lines
abbrev pub page_around : (first lines : List ℕ) → List ℕ
page_around first lines = before ++ (safe first ++ (safe lines ++ behind))

-- the page of these lines, under this title
abbrev pub page_of : Option (List ℕ) → List ℕ → List ℕ
page_of title lines = page_around (title_lines title) lines
