use Rattle.std.proofs.Common.{flat_map, take}
use Rattle.text_pieces.specs.Pieces.{Writes}
use Rattle.lint_styles.specs.Styles.{below_byte}
use Rattle.lint_styles.proofs.bytes.write_below.Given as goal

abbrev pub invariant-loop-byte : goal.invariant-loop-byte
invariant-loop-byte g l = Writes g.K.Sink l.fn.out l.out (flat_map below_byte (take l.byte-index l.bytes))
