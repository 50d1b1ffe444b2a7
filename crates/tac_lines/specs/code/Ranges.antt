-- Lines by the places of their tokens.
use Rattle.std.specs.Prelude.{ℕ, ◌≤◌, List, All, map, slice_range}
use Rattle.tac_lines.specs.Tokens.{Token as Word}
use Rattle.tac_lines.specs.code.Views.{tokens_view}
use Rattle.tac_lines.specs.declared.lexed.LineRange.{LineRange}
use Rattle.tac_lines.specs.declared.token.Token.{Token}

-- No line ends behind the n-th token.
abbrev pub EndsWithin : ℕ → List LineRange → Type 0
EndsWithin n lines = All (λ line. line.end ≤ n) lines

-- A line by its tokens, which are some of all.
abbrev pub range_view : List ℕ → List Token → LineRange → List Word
range_view text tokens line = tokens_view text (slice_range tokens line.first line.end)

abbrev pub range_views : List Token → List LineRange → List (List Token)
range_views tokens lines = map (λ line. slice_range tokens line.first line.end) lines
