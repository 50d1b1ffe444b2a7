use Rattle.std.proofs.Common.{◌≡◌, take, count_by}
use Rattle.tac_lines.specs.Text.{is_line_end}
use Rattle.tac_reader.proofs.cursor.line_feeds.Given as goal

-- The line feeds so far.
abbrev pub invariant-loop-byte : goal.invariant-loop-byte
invariant-loop-byte l = l.count ≡ count_by is_line_end (take l.byte-index l.bytes)
