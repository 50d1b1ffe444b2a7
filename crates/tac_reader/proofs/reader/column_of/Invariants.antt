use Rattle.std.proofs.Common.{◌≡◌, ◌+◌, ◌≤◌, take}
use Rattle.tac_lines.specs.Text.{column_after}
use Rattle.tac_reader.proofs.reader.column_of.Given as goal

-- The column behind the bytes so far.
abbrev pub invariant-loop-byte : goal.invariant-loop-byte
invariant-loop-byte l = record {
  within : l.column ≤ l.byte-index + 1;
  column : l.column ≡ column_after (take l.byte-index l.before);
}
