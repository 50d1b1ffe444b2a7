use Rattle.std.proofs.Common.{◌≡◌, [], drop, flat_map}
use Rattle.tac_reader.specs.Faults.{repeated}
use Rattle.tac_reader.specs.Sections.{statements_of}
use Rattle.tac_lines.specs.Forms.{callees_of}
use Rattle.tac_reader.specs.code.SectionViews.{sections_view}
use Rattle.tac_lines.specs.declared.refusal.RefusalKind.TheVariants.{DuplicateCallee}
use Rattle.tac_reader.proofs.checks.check_repeated_callees.Given as goal

-- The faults are the rest's.
abbrev pub invariant-loop-section : goal.invariant-loop-section
invariant-loop-section l = flat_map (λ s. flat_map (λ c. repeated DuplicateCallee [] (callees_of c)) (statements_of s.body))
    (sections_view l.text (drop l.section-index l.sections))
    ≡ flat_map (λ s. flat_map (λ c. repeated DuplicateCallee [] (callees_of c)) (statements_of s.body)) (sections_view l.text l.sections)
