-- What the lines of a source tell is the source.
use Rattle.std.specs.Prelude.{◌≡◌, ◌⊎◌, ℕ, List, [], ◌∷◌, ◌++◌, codes, flat_map}
use Rattle.tac_lines.specs.Text.{lines}
use Rattle.source_lines.specs.SourceLines.{content}

-- the end of a line: a line feed, with a carriage return before it or without; the last line of a text may have none
abbrev pub IsLineEnd : List ℕ → Type 0
IsLineEnd end = (end ≡ []) ⊎ ((end ≡ codes "\n") ⊎ (end ≡ 13 ∷ codes "\n"))

-- Each line is its content and its end, and all lines one after another are the text.
abbrev pub SourcesJoin : Type 0
SourcesJoin =
    ((line : List ℕ) → (end : List ℕ) × IsLineEnd end × (line ≡ content line ++ end))
    × ((text : List ℕ) → flat_map (λ line. line) (lines text) ≡ text)
