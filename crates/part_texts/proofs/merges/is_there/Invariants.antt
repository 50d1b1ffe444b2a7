use Rattle.std.proofs.Common.{◌≡◌, map, drop}
use Rattle.part_texts.specs.Merges.{is_there}
use Rattle.part_texts.specs.code.ReadParts.{part_in}
use Rattle.part_texts.proofs.merges.is_there.Given as goal

abbrev pub invariant-loop-part : goal.invariant-loop-part
invariant-loop-part l = is_there (map part_in (drop l.part-index l.parts)) l.number ≡ is_there (map part_in l.parts) l.number
