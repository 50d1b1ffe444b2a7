use Rattle.std.proofs.Common.{◌+◌, ◌≤◌, length, map, bit_and, w64, refl, sym, ap₂, ◌∙◌, arith}
use Rattle.std.specs.Int.{bit_not}
use lib.Lanes.{chunk, zip2}
use Rattle.std.proofs.lemmas.Simd.{length-put_chunk, length-chunk, length-zip2, get_or-zip2, get_or-chunk}
use Rattle.bit_rows.proofs.rows.WordLoops.{IsDoneTo-lanes, IsDoneTo-more, minus_acts, map_lane, length_map_lanes}
use Rattle.bit_rows.proofs.kernels.minus_words.Goals as goal

pub lanes-preserved : goal.lanes-preserved
lanes-preserved c =
    let s = c.args.source.now in
    let at = c.lanes.at in
    let t = c.lanes.target in
    let room : c.lanes.at + 8 ≤ length c.lanes.target = omega arith in
    let room_source : c.lanes.at + 8 ≤ length s = omega arith in
    let others = map (bit_not w64) (chunk at 8 s) in
    let lanes = zip2 bit_and (chunk at 8 t) others in
    let eight = length-chunk at 8 t room in
    let other_eight = length_map_lanes (bit_not w64) s at room_source in
    record {
      within = omega (arith, length-put_chunk at t lanes);
      so_far = IsDoneTo-lanes minus_acts c.lanes.invariant.so_far (λ k. (c.type_inv.source k).fits) lanes room
          (length-zip2 bit_and (chunk at 8 t) others (eight ∙ sym other_eight) ∙ eight)
          (λ j within.
          get_or-zip2 bit_and (chunk at 8 t) others j 0 0 0 (omega (arith, eight)) (omega (arith, other_eight))
          ∙ ap₂ bit_and (get_or-chunk at 8 t j 0 within) (map_lane (bit_not w64) s at room_source j within));
    }

pub rest-preserved : goal.rest-preserved
rest-preserved c = IsDoneTo-more minus_acts c.rest.invariant (λ k. (c.type_inv.source k).fits) _ (omega arith) refl
