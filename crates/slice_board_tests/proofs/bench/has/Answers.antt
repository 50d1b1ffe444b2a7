use Rattle.std.proofs.Common.{sym, arith}
use Rattle.bit_rows.proofs.sets.RowSets.{contains-below, contains-above}
use Rattle.slice_board_tests.proofs.bench.has.Goals as goal

pub returns-then-bit-lo : goal.returns-then-bit-lo
returns-then-bit-lo c = sym (contains-below c.args.row.now c.args.bit (omega (arith, c.if-bit-lo.true, c.lo.ensures)))

pub returns-then-bit-hi : goal.returns-then-bit-hi
returns-then-bit-hi c = sym (contains-above c.args.row.now c.args.bit (omega (arith, c.if-bit-hi.true, c.hi.ensures)))
