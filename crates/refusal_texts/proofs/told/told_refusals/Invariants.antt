use Rattle.std.proofs.Common.{◌≡◌, map, take}
use Rattle.refusal_texts.specs.RefusalTexts.{told_of}
use Rattle.refusal_texts.proofs.told.told_refusals.Given as goal

abbrev pub invariant-loop-refusal : goal.invariant-loop-refusal
invariant-loop-refusal l = l.told.items ≡ map (told_of l.limits l.text) (take l.refusal-index l.all)
