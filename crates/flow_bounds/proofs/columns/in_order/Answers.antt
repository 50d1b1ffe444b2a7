use Rattle.std.proofs.Common.{length, ap, arith}
use Rattle.flow_bounds.proofs.columns.in_order.Goals as goal

pub lists_of-requires-clause-few : goal.lists_of-requires-clause-few
lists_of-requires-clause-few c =
    omega (
      arith,
      ap length c.as_slice-2.ensures.value,
      c.in_ok-homes.ensures.count,
      ap length c.as_slice.ensures.value,
      c.in_ok-columns.ensures.few,
      c.bits.ensures.count,
      c.bits.type_inv,
    )
