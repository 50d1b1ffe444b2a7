use Rattle.std.proofs.Common.{◌+◌, ◌≤◌, length, bit_and, refl, arith}
use lib.Lanes.{chunk, zip2}
use Rattle.std.proofs.lemmas.Simd.{length-put_chunk}
use Rattle.bit_rows.proofs.rows.WordLoops.{IsDoneTo-lanes, IsDoneTo-more, and_acts, zip_lane, length_zip_lanes}
use Rattle.bit_rows.proofs.kernels.and_words.Goals as goal

pub lanes-preserved : goal.lanes-preserved
lanes-preserved c =
    let s = c.args.source.now in
    let room : c.lanes.at + 8 ≤ length c.lanes.target = omega arith in
    let room_source : c.lanes.at + 8 ≤ length s = omega arith in
    let lanes = zip2 bit_and (chunk c.lanes.at 8 c.lanes.target) (chunk c.lanes.at 8 s) in
    record {
      within = omega (arith, length-put_chunk c.lanes.at c.lanes.target lanes);
      so_far = IsDoneTo-lanes and_acts c.lanes.invariant.so_far (λ k. (c.type_inv.source k).fits) lanes room
          (length_zip_lanes bit_and c.lanes.target s c.lanes.at room room_source) (zip_lane bit_and c.lanes.target s c.lanes.at room room_source);
    }

pub rest-preserved : goal.rest-preserved
rest-preserved c = IsDoneTo-more and_acts c.rest.invariant (λ k. (c.type_inv.source k).fits) _ (omega arith) refl
