use Rattle.std.proofs.Common.{◌≡◌, map, take}
use Rattle.page_texts.specs.Pages.{shown_sign}
use Rattle.page_texts.proofs.title.shown_title.Given as goal

abbrev pub invariant-loop-byte : goal.invariant-loop-byte
invariant-loop-byte l = l.shown.items ≡ map shown_sign (take l.byte-index l.title)
