-- How what is told is shown: kinds in colours, and the line of the source behind it.
use Rattle.std.specs.Prelude.{ℕ, zero, suc, ◌+◌, ◌-◌, ◌/◌, ◌%◌, Bool, ◌&&◌, List, [], ◌∷◌, ◌++◌, map, flat_map, take, drop, length, replicate}
use Rattle.std.specs.Prelude.{codes, decimal, nat_eq, nat_le, nat_lt, if◌then◌else◌, slice_index, take_while}
use Rattle.lint_styles.specs.declared.style.Hue.{Hue}
use Rattle.lint_styles.specs.declared.style.Hue.TheVariants as hue
use Rattle.lint_styles.specs.declared.style.Style.{Style}
use Rattle.tac_lines.specs.Text.{column_after, is_line_end, no_line_end}

-- ---- colours

-- What a terminal calls a colour: bold, and magenta, red, cyan or green.
abbrev pub code_of : Hue → List ℕ
code_of hue.Remark = codes "1;35"
code_of hue.Error = codes "1;31"
code_of hue.Note = codes "1;36"
code_of hue.Caret = codes "1;32"

-- A text in its colour, between the signs by which a terminal takes it up and lays it down.
abbrev pub paint_begin : Style → Hue → List ℕ
paint_begin style hue = if style.color then 27 ∷ codes "[" ++ code_of hue ++ codes "m" else []

abbrev pub paint_end : Style → List ℕ
paint_end style = if style.color then 27 ∷ codes "[0m" else []

abbrev pub painted : Style → Hue → List ℕ → List ℕ
painted style hue text = paint_begin style hue ++ text ++ paint_end style

-- ---- bytes of a text

-- A printed sign of ASCII stands for itself, and every other byte is `\x` and its two hexadecimal digits.
abbrev pub is_printed : ℕ → Bool
is_printed b = nat_lt 31 b && nat_lt b 127

abbrev pub hex_digit : ℕ → ℕ
hex_digit n = if nat_lt n 10 then 48 + n else 87 + n

abbrev pub shown_byte : ℕ → List ℕ
shown_byte b = if is_printed b then b ∷ [] else 92 ∷ 120 ∷ hex_digit (b / 16) ∷ hex_digit (b % 16) ∷ []

-- Bytes as they are shown: a name that is shown so cannot change a terminal.
abbrev pub shown : List ℕ → List ℕ
shown bytes = flat_map shown_byte bytes

-- In a line of the source a tab stands for itself too.
abbrev pub source_byte : ℕ → List ℕ
source_byte b = if nat_eq b 9 then 9 ∷ [] else shown_byte b

-- What stands below that: a tab below a tab, and a blank below every other sign.
abbrev pub below_byte : ℕ → List ℕ
below_byte b = if nat_eq b 9 then 9 ∷ [] else map (λ sign. 32) (shown_byte b)

-- ---- the line of the source

-- the first line of a text, without its line feed
abbrev pub first_line : List ℕ → List ℕ
first_line text = take_while no_line_end text

-- what stands behind so many lines
abbrev pub behind_lines : ℕ → List ℕ → List ℕ
behind_lines zero text = text
behind_lines (suc count) [] = []
behind_lines (suc count) (b ∷ bs) = if is_line_end b then behind_lines count bs else behind_lines (suc count) bs

-- a line without the carriage return at its end
abbrev pub without_return : List ℕ → List ℕ
without_return line = if nat_lt 0 (length line) && nat_eq (slice_index line (length line - 1)) 13 then take (length line - 1) line else line

abbrev pub blanks : ℕ → List ℕ
blanks count = replicate count 32

-- the number of a line, at the right of five places
abbrev pub margin : ℕ → List ℕ
margin number = blanks (5 - length (decimal number)) ++ decimal number

-- A line of the source with its number, and a sign below it behind what stands below these bytes of it:
--
--    12 |   x = 0
--       |   ^
abbrev pub text_line : ℕ → (line : List ℕ) → List ℕ
text_line number line = margin number ++ codes " | " ++ flat_map source_byte (without_return line) ++ codes "\n"

abbrev pub sign_line : Style → ℕ → (before : List ℕ) → List ℕ
sign_line style number before =
    blanks (length (margin number)) ++ codes " | " ++ flat_map below_byte before ++ painted style hue.Caret (codes "^") ++ codes "\n"

abbrev pub source_lines : Style → ℕ → (before line : List ℕ) → List ℕ
source_lines style number before line = text_line number line ++ sign_line style number before

-- A line is shown where it has bytes, and not so many that it hides what is told.
abbrev pub is_shown : List ℕ → Bool
is_shown line = nat_lt 0 (length line) && nat_le (length line) 512

abbrev pub wanted_source : Style → ℕ → (before line : List ℕ) → List ℕ
wanted_source style number before line = if style.source && is_shown line then source_lines style number before line else []

-- the line of this number in which the place behind these bytes lies, of a text that begins with them
abbrev pub line_start : (before : List ℕ) → ℕ
line_start before = length before + 1 - column_after before

abbrev pub source_behind : Style → List ℕ → ℕ → (before : List ℕ) → List ℕ
source_behind style text number before =
    wanted_source style number (drop (line_start before) before) (first_line (drop (line_start before) text))

-- the line of this number in which a place of a text lies
abbrev pub source_at : Style → List ℕ → (number place : ℕ) → List ℕ
source_at style text number place = source_behind style text number (take place text)

-- the line of this number of a text, with the sign below a column, both from 1
abbrev pub source_of : Style → List ℕ → (number column : ℕ) → List ℕ
source_of style text number column =
    wanted_source style number (take (column - 1) (first_line (behind_lines (number - 1) text))) (first_line (behind_lines (number - 1) text))
