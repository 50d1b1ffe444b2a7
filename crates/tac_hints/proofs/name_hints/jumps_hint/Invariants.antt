use Rattle.std.proofs.Common.{◌≡◌, drop}
use Rattle.tac_reader.specs.code.SectionViews.{sections_view}
use Rattle.tac_faults.specs.Hints.Choices.{any_hint, or_hint}
use Rattle.tac_hints.specs.Names.{jump_hint}
use Rattle.tac_hints.proofs.name_hints.jumps_hint.Given as goal

-- The hint so far or that of the rest is that of all.
abbrev pub invariant-loop-section : goal.invariant-loop-section
invariant-loop-section l = or_hint l.hint (any_hint (jump_hint l.place) (sections_view l.text (drop l.section-index l.sections)))
    ≡ any_hint (jump_hint l.place) (sections_view l.text l.sections)
