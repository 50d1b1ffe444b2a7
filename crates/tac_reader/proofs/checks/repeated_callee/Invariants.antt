use Rattle.std.proofs.Common.{◌≡◌, [], drop, map, flat_map}
use Rattle.tac_reader.specs.Faults.{repeated}
use Rattle.tac_reader.specs.Sections.{statements_of}
use Rattle.tac_lines.specs.Forms.{callees_of}
use Rattle.tac_lines.specs.code.Ranges.{range_view}
use Rattle.tac_reader.specs.code.SectionViews.{lines_view}
use Rattle.tac_lines.specs.declared.refusal.RefusalKind.TheVariants.{DuplicateCallee}
use Rattle.tac_reader.proofs.checks.repeated_callee.Given as goal

-- The faults are the rest's.
abbrev pub invariant-loop-at : goal.invariant-loop-at
invariant-loop-at l = flat_map (λ c. repeated DuplicateCallee [] (callees_of c))
    (statements_of (map (range_view l.text l.section.lines.tokens.now) (drop l.at l.section.lines.ranges.now)))
    ≡ flat_map (λ c. repeated DuplicateCallee [] (callees_of c)) (statements_of (lines_view l.text l.section.lines))
