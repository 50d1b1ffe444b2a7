use Rattle.std.proofs.Common.{◌≡◌, ◌++◌, map, drop, flat_map, codes}
use Rattle.part_texts.specs.Merges.{report_of_parts}
use Rattle.part_texts.specs.code.ReadParts.{line_of, part_in}
use Rattle.part_texts.proofs.merges.report.Given as goal

abbrev pub invariant-loop-line : goal.invariant-loop-line
invariant-loop-line l =
    l.text.items ++ flat_map (λ line. line.text ++ codes "\n") (map line_of (drop l.line-index l.line-items)) ≡ report_of_parts (map part_in l.parts)
