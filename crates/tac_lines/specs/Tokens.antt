-- The tokens of a line, and its first byte that begins none.
use Rattle.std.specs.Prelude.{ℕ, zero, suc, ◌+◌, ◌-◌, ◌*◌, Bool, false, ◌&&◌, ◌||◌, List, [], ◌∷◌, ◌++◌, length, take, Option, Some, None, ◌==◌}
use Rattle.std.specs.Prelude.{if◌then◌else◌, codes, min, flat_map}
use Rattle.std.specs.List.{list_all}
use Rattle.tac_lines.specs.Text.{lines, no_line_end}
use Rattle.tac_program.specs.Names.{is_one_of}
use Rattle.tac_program.specs.Spelling.{binary_signs, is_digit, is_name, keywords, unary_signs}

-- What a token is: a name, a number by its value, or one of the fixed words, which are the keywords and the signs.
pub data Word : Type 0 where
  name : List ℕ → Word
  number : ℕ → Word
  fixed : List ℕ → Word

-- A token: what it is, and the places in the text where it starts and where the bytes behind it start.
pub record Token : Type 0 where
  pub word : Word
  pub start : ℕ
  pub stop : ℕ

-- A piece of a line: a word, or a gap, which is a blank or a comment.
pub data Piece : Type 0 where
  word : Word → Piece
  gap : Piece

abbrev pub is_number : List ℕ → Bool
is_number [] = false
is_number (b ∷ bs) = is_digit b && list_all is_digit bs

abbrev pub is_comment : List ℕ → Bool
is_comment [] = false
is_comment (b ∷ bs) = b == 35 && list_all no_line_end bs

-- A space, a tab, a line's end; a carriage return only directly before a line feed.
abbrev pub is_blank : List ℕ → Bool
is_blank s = is_one_of s (codes " " ∷ codes "\t" ∷ codes "\n" ∷ codes "\r\n" ∷ [])

abbrev pub signs : List (List ℕ)
signs = codes ":" ∷ codes "=" ∷ binary_signs ++ unary_signs

-- The value of the digits, which follow those of the value `high`.
abbrev pub value_from : ℕ → List ℕ → ℕ
value_from high [] = high
value_from high (d ∷ ds) = value_from (10 * high + (d - 48)) ds

-- The value of digits, up to one more than the largest number: no program has a larger one.
abbrev pub value_of : List ℕ → ℕ
value_of digits = min (value_from 0 digits) 9223372036854775808

abbrev pub name_or_keyword : List ℕ → Piece
name_or_keyword s = word (if is_one_of s keywords then fixed s else name s)

abbrev pub number_piece : List ℕ → Piece
number_piece s = word (number (value_of s))

-- The piece that is spelled s, by what s is.
abbrev pub picked : (named numbered signed skipped : Bool) → List ℕ → Option Piece
picked named numbered signed skipped s =
    if named then Some (name_or_keyword s) else if numbered then Some (number_piece s) else if signed then Some (word (fixed s))
    else if skipped then Some gap else None

abbrev pub piece_of : List ℕ → Option Piece
piece_of s = picked (is_name s) (is_number s) (is_one_of s signs) (is_blank s || is_comment s) s

-- The longest front of at most n bytes that is a piece: its length, and the piece.
abbrev pub longest_of : ℕ → List ℕ → Option (ℕ × Piece)
longest_of zero bytes = None
longest_of (suc n) bytes = elim (piece_of (take (suc n) bytes)) [ Some p ↦ Some (suc n, p) | None ↦ longest_of n bytes ]

abbrev pub longest : List ℕ → Option (ℕ × Piece)
longest bytes = longest_of (length bytes) bytes

-- What a line holds: its tokens up to the first byte that begins no piece, and the place of that byte.
pub record Row : Type 0 where
  pub tokens : List Token
  pub bad : Option ℕ

abbrev pub before_row : Piece → ℕ → ℕ → Row → Row
before_row gap start stop row = row
before_row (word w) start stop row = record { tokens = record { word = w; start = start; stop = stop } ∷ row.tokens; bad = row.bad }

-- The rest of a line, from a place on: its first bytes may belong to a piece that began before.
abbrev pub row_from : ℕ → ℕ → List ℕ → Row
row_from place inside [] = record { tokens = []; bad = None }
row_from place (suc inside) (b ∷ bs) = row_from (suc place) inside bs
row_from place zero (b ∷ bs) =
    elim (longest (b ∷ bs)) [
      | None ↦ record { tokens = []; bad = Some place }
      | Some found ↦ before_row found.1 place (place + found.0) (row_from (suc place) (found.0 - 1) bs)
    ]

abbrev pub rows_from : ℕ → List (List ℕ) → List Row
rows_from place [] = []
rows_from place (line ∷ others) = row_from place zero line ∷ rows_from (place + length line) others

abbrev pub rows : List ℕ → List Row
rows text = rows_from 0 (lines text)

abbrev pub stop_of : List Token → ℕ
stop_of [] = 0
stop_of (t ∷ []) = t.stop
stop_of (t ∷ u ∷ ts) = stop_of (u ∷ ts)

-- The bytes of a name or of a fixed word.
abbrev pub bytes_of : Word → List ℕ
bytes_of (name s) = s
bytes_of (number n) = []
bytes_of (fixed s) = s

abbrev pub spelling_of : Token → List ℕ
spelling_of t = bytes_of t.word

-- The tokens of each line that has some.
abbrev pub unless_empty : List Token → List (List Token)
unless_empty [] = []
unless_empty (t ∷ ts) = (t ∷ ts) ∷ []

abbrev pub token_lines : List Row → List (List Token)
token_lines rs = flat_map (λ row. unless_empty row.tokens) rs
