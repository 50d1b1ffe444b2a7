use Rattle.std.proofs.Common.{◌≡◌, ◌++◌, map, drop, flat_map}
use Rattle.part_texts.specs.code.ReadParts.{line_of, part_in}
use Rattle.part_texts.proofs.merges.lines_in_order.Given as goal

abbrev pub invariant-loop-part : goal.invariant-loop-part
invariant-loop-part l =
    map line_of l.lines.items ++ flat_map (λ p. p.lines) (map part_in (drop l.part-index l.parts)) ≡ flat_map (λ p. p.lines) (map part_in l.parts)
