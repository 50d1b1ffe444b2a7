-- The lines of a program's text as lines of JSON: each with its number, where it begins, and its bytes.
use Rattle.std.specs.Prelude.{◌≡◌, ℕ, ◌+◌, ◌/◌, ◌%◌, ◌&&◌, ◌==◌, Bool, List, [], ◌∷◌, ◌++◌, flat_map, length, reverse, codes, decimal, nat_lt}
use Rattle.std.specs.Prelude.{if◌then◌else◌}
use Rattle.tac_lines.specs.Text.{lines}
use Rattle.text_pieces.specs.Strings.{escaped_byte}

-- A printed sign of ASCII, or a space.
abbrev pub is_sign : ℕ → Bool
is_sign b = nat_lt 31 b && nat_lt b 127

abbrev pub hex_digit : ℕ → ℕ
hex_digit n = if nat_lt n 10 then 48 + n else 87 + n

-- A byte between quotes: each other one is told by its number, so that one sign stands for one byte whatever it is.
abbrev pub byte_text : ℕ → List ℕ
byte_text b = if is_sign b then escaped_byte b else codes "\\u00" ++ hex_digit (b / 16) ∷ hex_digit (b % 16) ∷ []

-- a line from its last byte on, without the line feed that it begins with, and a carriage return behind that
abbrev pub without_return : List ℕ → List ℕ
without_return [] = []
without_return (b ∷ before) = if b == 13 then before else b ∷ before

abbrev pub without_line_end : List ℕ → List ℕ
without_line_end [] = []
without_line_end (b ∷ before) = if b == 10 then without_return before else b ∷ before

-- what stands in a line before its end
abbrev pub content : List ℕ → List ℕ
content line = reverse (without_line_end (reverse line))

abbrev pub source_line : (number start : ℕ) → List ℕ → List ℕ
source_line number start line =
    codes "{\"type\":\"source\",\"line\":" ++ decimal number ++ codes ",\"start\":" ++ decimal start
    ++ codes ",\"text\":\"" ++ flat_map byte_text (content line) ++ codes "\"}\n"

-- the lines from one on, of which the first has this number and begins there
abbrev pub lines_from : (number start : ℕ) → List (List ℕ) → List ℕ
lines_from number start [] = []
lines_from number start (line ∷ others) = source_line number start line ++ lines_from (number + 1) (start + length line) others

-- all lines of a text, from 1 and from byte 0 on
abbrev pub source_lines : List ℕ → List ℕ
source_lines text = lines_from 1 0 (lines text)

-- A text by its first line and all behind it.
pub record Lined : Type 0 where
  pub first : List ℕ
  pub others : List ℕ

abbrev pub all_of_lined : Lined → List ℕ
all_of_lined lined = lined.first ++ lined.others

-- The text has the lines of a source behind its first line, and is such a text without them.
pub record IsSourced (source first : List ℕ) (IsLines : List ℕ → Type 0) (text : List ℕ) : Type 0 where
  pub others : List ℕ
  pub are_lines : IsLines (first ++ others)
  pub is_text : text ≡ first ++ source_lines source ++ others
