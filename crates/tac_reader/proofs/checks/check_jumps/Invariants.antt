use Rattle.std.proofs.Common.{◌≡◌, drop, flat_map}
use Rattle.tac_reader.specs.Faults.{jumps_in, unknown}
use Rattle.tac_reader.specs.Sections.{labels_in}
use Rattle.tac_reader.specs.code.SectionViews.{sections_view}
use Rattle.tac_lines.specs.declared.refusal.RefusalKind.TheVariants.{UnknownLabel}
use Rattle.tac_reader.proofs.checks.check_jumps.Given as goal

-- The faults are the rest's.
abbrev pub invariant-loop-at : goal.invariant-loop-at
invariant-loop-at l = flat_map (λ s. unknown UnknownLabel (labels_in s) (jumps_in s)) (sections_view l.text (drop l.at l.sections))
    ≡ flat_map (λ s. unknown UnknownLabel (labels_in s) (jumps_in s)) (sections_view l.text l.sections)
