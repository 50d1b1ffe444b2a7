use Rattle.std.proofs.Common.{arith}
use Rattle.bit_rows.proofs.slices.Cuts.{slices_le_bits}
use Rattle.bit_rows.proofs.slicing.Cut.slices.Goals as goal

pub overflow_cast-result : goal.overflow_cast-result
overflow_cast-result c =
    record {
      fits = omega
          (arith, slices_le_bits (record { bits = c.self.inside.bits; ends = c.self.inside.ends.items }) c.self.invariant.0, c.self.invariant.1);
    }
