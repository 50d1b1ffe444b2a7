use Rattle.std.proofs.Common.{◌≡◌, ◌++◌, [], drop, flat_map, take}
use Rattle.tac_faults.specs.Listed.{most_found}
use Rattle.tac_lines.specs.declared.refusal.RefusalKind.TheVariants.{DuplicateLabel}
use Rattle.tac_reader.specs.Faults.{repeated}
use Rattle.tac_reader.specs.Sections.{labels_in}
use Rattle.tac_reader.specs.code.SectionViews.{sections_view}
use Rattle.tac_faults.proofs.names.tell_labels.Given as goal

-- The faults so far and those of the other procedures are all.
abbrev pub invariant-loop-section : goal.invariant-loop-section
invariant-loop-section l = take most_found
    (l.found.items ++ flat_map (λ s. repeated DuplicateLabel [] (labels_in s))
    (sections_view l.text (drop l.section-index l.sections)))
    ≡ take most_found (l.fn.found.items
    ++ flat_map (λ s. repeated DuplicateLabel [] (labels_in s)) (sections_view l.text l.sections))
