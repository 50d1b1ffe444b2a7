use Rattle.std.proofs.Common.{◌≡◌, drop, flat_map}
use Rattle.tac_reader.specs.Faults.{callees_in, unknown}
use Rattle.tac_reader.specs.Sections.{titles}
use Rattle.tac_reader.specs.code.SectionViews.{sections_view}
use Rattle.tac_lines.specs.declared.refusal.RefusalKind.TheVariants.{UnknownProcedure}
use Rattle.tac_reader.proofs.checks.check_callees.Given as goal

-- The faults are the rest's.
abbrev pub invariant-loop-section : goal.invariant-loop-section
invariant-loop-section l = flat_map (λ s. unknown UnknownProcedure (titles (sections_view l.text l.sections)) (callees_in s))
    (sections_view l.text (drop l.section-index l.sections))
    ≡ flat_map (λ s. unknown UnknownProcedure (titles (sections_view l.text l.sections)) (callees_in s)) (sections_view l.text l.sections)
