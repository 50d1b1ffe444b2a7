-- What one wants to know of lines, tokens and forms.
use Rattle.std.specs.Prelude.{◌≡◌, ◌≢◌, ℕ, ◌<◌, ◌≤◌, true, List, flat_map, length, All, AllPairs, Some, slice_range}
use Rattle.tac_lines.specs.Text.{lines}
use Rattle.tac_lines.specs.Tokens.{word, Token, piece_of, rows}
use Rattle.tac_lines.specs.Forms.{Slot, has_form, statements}
use Rattle.tac_lines.specs.declared.form.Form.{Form}

-- The lines, one after another, are the text.
abbrev pub LinesJoin : Type 0
LinesJoin = (text : List ℕ) → flat_map (λ line. line) (lines text) ≡ text

-- No words have two rows of the table of statements.
abbrev pub NoWordsInBoth : Form × List Slot → Form × List Slot → Type 0
NoWordsInBoth f g = (ts : List Token) → has_form f.1 ts ≡ true → has_form g.1 ts ≢ true

abbrev pub StatementsAreApart : Type 0
StatementsAreApart = AllPairs NoWordsInBoth statements

-- The bytes from a token's start to its stop spell it, and are some.
abbrev pub IsSpelled : List ℕ → Token → Type 0
IsSpelled text t = (t.start < t.stop) × (t.stop ≤ length text) × (piece_of (slice_range text t.start t.stop) ≡ Some (word t.word))

abbrev pub TokensAreSpelled : Type 0
TokensAreSpelled = (text : List ℕ) → All (λ row. All (IsSpelled text) row.tokens) (rows text)
