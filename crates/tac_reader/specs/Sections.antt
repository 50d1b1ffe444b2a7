-- A text's procedures by their tokens: what the names in it are compared on.
use Rattle.std.specs.Prelude.{ℕ, take_while, List, [], ◌∷◌, ◌++◌, map, flat_map, if◌then◌else◌}
use Rattle.tac_lines.specs.Tokens.{Token, rows, token_lines, unless_empty}
use Rattle.tac_lines.specs.Forms.{has_form, proc_form, labels_of, behind_labels, cells_of, in_slot, is_name_word, is_inner, is_variable}

-- A procedure's name, and its lines, each by its tokens.
pub record Section : Type 0 where
  pub title : Token
  pub body : List (List Token)

-- A section for each `proc` line: its name, and the lines up to the next `proc` or `end`.
abbrev pub opened_by : List Token → List (List Token) → List Section
opened_by (t ∷ u ∷ ts) others = record { title = u; body = take_while is_inner others } ∷ []
opened_by _ others = []

abbrev pub sections_in : List (List Token) → List Section
sections_in [] = []
sections_in (line ∷ others) = (if has_form proc_form line then opened_by line others else []) ++ sections_in others

abbrev pub sections : List ℕ → List Section
sections text = sections_in (token_lines (rows text))

abbrev pub titles : List Section → List Token
titles ss = map (λ s. s.title) ss

-- The statements of lines, each what stands behind the labels.
abbrev pub statements_of : List (List Token) → List (List Token)
statements_of body = flat_map (λ line. unless_empty (behind_labels line)) body

abbrev pub labels_in : Section → List Token
labels_in s = flat_map labels_of s.body

-- The tokens of a statement that name a variable.
abbrev pub only_name : Token → List Token
only_name t = if is_name_word t.word then t ∷ [] else []

abbrev pub variables_of : List Token → List Token
variables_of statement = flat_map only_name (in_slot is_variable (cells_of statement))
