-- What the code's sections stand for.
use Rattle.std.specs.Prelude.{ℕ, List, map}
use Rattle.tac_lines.specs.Tokens.{Token}
use Rattle.tac_reader.specs.Sections.{Section}
use Rattle.tac_lines.specs.code.Ranges.{range_view}
use Rattle.tac_lines.specs.code.Views.{token_view}
use Rattle.tac_lines.specs.declared.formed.Lines.{Lines}
use Rattle.tac_reader.specs.declared.section.Section.{Section as Read}

-- Lines, each by its tokens.
abbrev pub lines_view : List ℕ → Lines → List (List Token)
lines_view text lines = map (range_view text lines.tokens.now) lines.ranges.now

-- A section by its name and its lines, each by its tokens.
abbrev pub section_view : List ℕ → Read → Section
section_view text s = record { title = token_view text s.title; body = lines_view text s.lines }

abbrev pub sections_view : List ℕ → List Read → List Section
sections_view text ss = map (section_view text) ss
