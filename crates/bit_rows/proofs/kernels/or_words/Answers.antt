use Rattle.std.proofs.Common.{◌≡◌, ◌+◌, ◌≤◌, ◌||◌, length, get_or, map, bit_and, bit_or, w64, refl, sym, ap, ap₂, ◌∙◌, arith}
use Rattle.std.specs.Int.{bit_not}
use lib.Lanes.{chunk, zip2}
use Rattle.std.proofs.lemmas.Simd.{length-put_chunk, length-chunk, length-zip2, get_or-zip2, get_or-chunk}
use Rattle.bit_rows.specs.Words.{CombinesPlaces}
use Rattle.bit_rows.proofs.rows.WordLoops.{IsDoneTo-lanes, IsDoneTo-more, or_acts, zip_lane, length_zip_lanes, map_lane, length_map_lanes}
use Rattle.bit_rows.proofs.rows.Gains.{LanesTell-more, Tells-lanes, Tells-more, changed_from_gain}
use Rattle.bit_rows.proofs.kernels.or_words.Goals as goal

pub lanes-preserved : goal.lanes-preserved
lanes-preserved c =
    let s = c.args.source.now in
    let at = c.lanes.at in
    let t = c.lanes.target in
    let room : c.lanes.at + 8 ≤ length c.lanes.target = omega arith in
    let room_source : c.lanes.at + 8 ≤ length s = omega arith in
    let lanes = zip2 bit_or (chunk at 8 t) (chunk at 8 s) in
    let clear = map (bit_not w64) (chunk at 8 t) in
    let eight = length-chunk at 8 s room_source in
    let clear_eight = length_map_lanes (bit_not w64) t at room in
    let gained_eight = length-zip2 bit_and (chunk at 8 s) clear (eight ∙ sym clear_eight) ∙ eight in
    record {
      within = omega (arith, length-put_chunk at t lanes);
      so_far = IsDoneTo-lanes or_acts c.lanes.invariant.so_far (λ k. (c.type_inv.source k).fits) lanes room
          (length_zip_lanes bit_or t s at room room_source) (zip_lane bit_or t s at room room_source);
      old_fits = c.lanes.invariant.old_fits;
      eight = length-zip2 bit_or c.lanes.gained_lanes (zip2 bit_and (chunk at 8 s) clear) (c.lanes.invariant.eight ∙ sym gained_eight)
          ∙ c.lanes.invariant.eight;
      told = LanesTell-more c.lanes.invariant.told c.lanes.invariant.eight (zip2 bit_and (chunk at 8 s) clear) gained_eight
          (λ j within.
          get_or-zip2 bit_and (chunk at 8 s) clear j 0 0 0 (omega (arith, eight)) (omega (arith, clear_eight))
          ∙ ap₂ bit_and (get_or-chunk at 8 s j 0 within) (map_lane (bit_not w64) t at room j within
          ∙ ap (bit_not w64) (c.lanes.invariant.so_far.left (at + j) (omega arith))));
    }

pub rest-init : goal.rest-init
rest-init c = record {
  so_far = c.lanes.invariant.so_far;
  old_fits = c.lanes.invariant.old_fits;
  told = Tells-lanes c.lanes.invariant.told;
}

pub rest-preserved : goal.rest-preserved
rest-preserved c =
    let s = c.args.source.now in
    record {
      so_far = IsDoneTo-more or_acts c.rest.invariant.so_far (λ k. (c.type_inv.source k).fits) _ (omega arith) refl;
      old_fits = c.rest.invariant.old_fits;
      told = Tells-more c.rest.invariant.told
          _ (ap (λ word. bit_and (get_or s c.rest.k 0) (bit_not w64 word)) (c.rest.invariant.so_far.left c.rest.k (omega arith)));
    }

pub returns-clause-changed : goal.returns-clause-changed
returns-clause-changed c =
    let old = c.args.target.now in
    let s = c.args.source.now in
    let at_end : c.rest.k ≡ length old = omega arith in
    let places : CombinesPlaces ◌||◌ old s c.rest.target = λ k i present within. c.rest.invariant.so_far.done k i (omega arith) within in
    changed_from_gain old s c.rest.target (omega arith) c.rest.invariant.old_fits c.rest.invariant.so_far.fits places
    (λ k. (c.type_inv.source k).fits) c.rest.gained (rw at_end at c.rest.invariant.told)
