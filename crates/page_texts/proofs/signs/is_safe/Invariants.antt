use Rattle.std.proofs.Common.{◌≡◌, take}
use Rattle.page_texts.specs.Pages.{safe}
use Rattle.page_texts.proofs.signs.is_safe.Given as goal

abbrev pub invariant-loop-byte : goal.invariant-loop-byte
invariant-loop-byte l = safe (take l.byte-index l.bytes) ≡ take l.byte-index l.bytes
