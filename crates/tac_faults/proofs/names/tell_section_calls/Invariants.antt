use Rattle.std.proofs.Common.{◌≡◌, ◌++◌, [], drop, flat_map, map, take}
use Rattle.tac_faults.specs.Listed.{most_found}
use Rattle.tac_lines.specs.Forms.{callees_of}
use Rattle.tac_lines.specs.code.Ranges.{range_view}
use Rattle.tac_lines.specs.declared.refusal.RefusalKind.TheVariants.{DuplicateCallee}
use Rattle.tac_reader.specs.Faults.{repeated}
use Rattle.tac_reader.specs.Sections.{statements_of}
use Rattle.tac_reader.specs.code.SectionViews.{lines_view}
use Rattle.tac_faults.proofs.names.tell_section_calls.Given as goal

-- The faults so far and those of the other lines are all.
abbrev pub invariant-loop-at : goal.invariant-loop-at
invariant-loop-at l = take most_found (l.found.items ++ flat_map (λ c. repeated DuplicateCallee [] (callees_of c))
    (statements_of (map (range_view l.text l.section.lines.tokens.now) (drop l.at l.section.lines.ranges.now))))
    ≡ take most_found (l.fn.found.items
    ++ flat_map (λ c. repeated DuplicateCallee [] (callees_of c)) (statements_of (lines_view l.text l.section.lines)))
