use Rattle.std.proofs.Common.{◌+◌, ◌≤◌, length, map, w64, refl, arith}
use Rattle.std.specs.Int.{bit_not}
use lib.Lanes.{chunk}
use Rattle.std.proofs.lemmas.Simd.{length-put_chunk}
use Rattle.bit_rows.proofs.rows.WordLoops.{IsDoneTo-lanes, IsDoneTo-more, flip_acts, map_lane, length_map_lanes}
use Rattle.bit_rows.proofs.kernels.flip_words.Goals as goal

pub lanes-preserved : goal.lanes-preserved
lanes-preserved c =
    let at = c.lanes.at in
    let t = c.lanes.words in
    let room : c.lanes.at + 8 ≤ length c.lanes.words = omega arith in
    let lanes = map (bit_not w64) (chunk at 8 t) in
    record {
      within = omega (arith, length-put_chunk at t lanes);
      so_far = IsDoneTo-lanes flip_acts c.lanes.invariant.so_far (λ k. omega arith) lanes room (length_map_lanes (bit_not w64) t at room)
          (map_lane (bit_not w64) t at room);
    }

pub rest-preserved : goal.rest-preserved
rest-preserved c = IsDoneTo-more flip_acts c.rest.invariant (λ k. omega arith) _ (omega arith) refl
