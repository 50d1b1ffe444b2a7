use Rattle.std.proofs.Common.{◌≡◌, ◌+◌, ◌-◌, ◌≤◌, map, not}
use Rattle.std.specs.List.{find, range_with_len}
use Rattle.part_texts.specs.Merges.{is_there, missing}
use Rattle.part_texts.specs.code.ReadParts.{part_in}
use Rattle.part_texts.proofs.merges.missing.Given as goal

abbrev pub invariant-loop-before : goal.invariant-loop-before
invariant-loop-before l =
    find (λ k. not (is_there (map part_in l.parts) k)) (range_with_len (l.before + 1) (l.before-end - l.before)) ≡ missing (map part_in l.parts)
