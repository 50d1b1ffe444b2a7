use Rattle.std.proofs.Common.{◌≡◌, ◌++◌, map, drop}
use Rattle.part_texts.specs.code.ReadParts.{line_of}
use Rattle.part_texts.proofs.merges.put_lines.Given as goal

abbrev pub invariant-loop-line : goal.invariant-loop-line
invariant-loop-line l =
    map line_of l.lines.items ++ map line_of (drop l.line-index l.line-items) ≡ map line_of l.initial.lines.items ++ map line_of l.part.lines.items
