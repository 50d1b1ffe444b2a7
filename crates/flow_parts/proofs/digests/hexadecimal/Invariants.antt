use Rattle.std.proofs.Common.{◌≡◌, ◌++◌, drop}
use Rattle.flow_parts.specs.Parts.{hexadecimal}
use Rattle.flow_parts.proofs.digests.hexadecimal.Given as goal

abbrev pub invariant-loop-byte : goal.invariant-loop-byte
invariant-loop-byte l = l.digits.items ++ hexadecimal (drop l.byte-index l.bytes) ≡ hexadecimal l.bytes
