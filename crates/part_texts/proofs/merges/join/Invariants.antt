use Rattle.std.proofs.Common.{◌≡◌, [], map, drop}
use Rattle.part_texts.specs.Merges.{joined}
use Rattle.part_texts.specs.code.ReadParts.{part_in}
use Rattle.part_texts.proofs.merges.join.Given as goal

abbrev pub invariant-loop-text : goal.invariant-loop-text
invariant-loop-text l =
    joined (map part_in l.parts.items) (map (λ text. text.now) (drop l.text-index l.texts)) ≡ joined [] (map (λ text. text.now) l.texts)
