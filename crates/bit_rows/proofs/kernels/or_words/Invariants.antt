use Rattle.std.proofs.Common.{◌≡◌, ℕ, ◌-◌, ◌<◌, ◌≤◌, ◌^◌, ◌||◌, length, get_or}
use Rattle.bit_rows.proofs.rows.WordLoops.{IsDoneTo}
use Rattle.bit_rows.proofs.rows.Gains.{LanesTell, Tells}
use Rattle.bit_rows.proofs.kernels.or_words.Given as goal

abbrev pub invariant-lanes : goal.invariant-lanes
invariant-lanes l = record {
  within : l.at ≤ length l.target;
  so_far : IsDoneTo ◌||◌ l.fn.target l.source l.at l.target;
  old_fits : (k : ℕ) → get_or l.fn.target k 0 < 2 ^ 64;
  eight : length l.gained_lanes ≡ 8;
  told : LanesTell l.fn.target l.source l.at l.gained_lanes;
}

abbrev pub decreases-lanes : goal.decreases-lanes
decreases-lanes l = length l.initial.target - l.at

abbrev pub invariant-rest : goal.invariant-rest
invariant-rest l = record {
  so_far : IsDoneTo ◌||◌ l.fn.target l.source l.k l.target;
  old_fits : (k : ℕ) → get_or l.fn.target k 0 < 2 ^ 64;
  told : Tells l.fn.target l.source l.k l.gained;
}
