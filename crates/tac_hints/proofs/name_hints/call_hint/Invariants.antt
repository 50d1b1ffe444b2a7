use Rattle.std.proofs.Common.{◌≡◌, drop, map}
use Rattle.tac_lines.specs.Forms.{callees_of}
use Rattle.tac_lines.specs.code.Ranges.{range_view}
use Rattle.tac_reader.specs.Sections.{statements_of}
use Rattle.tac_reader.specs.code.SectionViews.{lines_view}
use Rattle.tac_faults.specs.Hints.Choices.{any_hint, or_hint}
use Rattle.tac_hints.specs.Names.{first_at}
use Rattle.tac_hints.proofs.name_hints.call_hint.Given as goal

-- The hint so far or that of the rest is that of all.
abbrev pub invariant-loop-at : goal.invariant-loop-at
invariant-loop-at l = or_hint l.hint (any_hint (λ c. first_at l.text (callees_of c) l.place)
    (statements_of (map (range_view l.text l.section.lines.tokens.now) (drop l.at l.section.lines.ranges.now))))
    ≡ any_hint (λ c. first_at l.text (callees_of c) l.place) (statements_of (lines_view l.text l.section.lines))
