use Rattle.std.proofs.Common.{◌≡◌, ◌++◌, [], drop, map, flat_map}
use Rattle.tac_reader.specs.Faults.{repeated}
use Rattle.tac_reader.specs.Parses.{names_in}
use Rattle.tac_reader.specs.Sections.{labels_in}
use Rattle.tac_reader.specs.code.SectionViews.{sections_view}
use Rattle.tac_lines.specs.declared.refusal.RefusalKind.TheVariants.{DuplicateLabel}
use Rattle.tac_reader.proofs.checks.check_labels.Given as goal

-- The names of the rest are to come, and the faults are the rest's.
abbrev pub invariant-loop-section : goal.invariant-loop-section
invariant-loop-section l = record {
  names : l.tables.items ++ map (λ s. names_in (labels_in s)) (sections_view l.text (drop l.section-index l.sections))
      ≡ map (λ s. names_in (labels_in s)) (sections_view l.text l.sections);
  faults : flat_map (λ s. repeated DuplicateLabel [] (labels_in s)) (sections_view l.text (drop l.section-index l.sections))
      ≡ flat_map (λ s. repeated DuplicateLabel [] (labels_in s)) (sections_view l.text l.sections);
}
