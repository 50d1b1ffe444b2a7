use Rattle.std.proofs.Common.{◌≡◌, ◌++◌, ℕ, List, drop}
use Rattle.tac_reader.specs.Sections.{titles}
use Rattle.tac_reader.specs.code.SectionViews.{sections_view}
use Rattle.tac_lines.specs.code.Views.{tokens_view}
use Rattle.tac_faults.proofs.names.titles.Given as goal

-- The names so far and those of the rest are all.
abbrev pub invariant-loop-section : goal.invariant-loop-section
invariant-loop-section l = (text : List ℕ)
    → tokens_view text l.found.items ++ titles (sections_view text (drop l.section-index l.sections)) ≡ titles (sections_view text l.sections)
