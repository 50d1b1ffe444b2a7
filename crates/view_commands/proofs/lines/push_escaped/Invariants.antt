-- What stands for the bytes so far stands behind what was there.
use Rattle.std.proofs.Common.{◌≡◌, ◌++◌, flat_map, take}
use Rattle.view_commands.specs.Lines.{escaped_byte}
use Rattle.view_commands.proofs.lines.push_escaped.Given as goal

abbrev pub invariant-loop-byte : goal.invariant-loop-byte
invariant-loop-byte l = l.text.items ≡ l.fn.text.items ++ flat_map escaped_byte (take l.byte-index l.bytes)
