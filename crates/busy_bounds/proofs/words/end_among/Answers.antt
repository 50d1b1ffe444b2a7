use Rattle.std.proofs.Common.{◌<◌, ℕ, List, length, inl, inr, arith}
use Rattle.busy_bounds.proofs.sets_left.Growing.{among_split}
use Rattle.busy_bounds.proofs.words.end_among.Goals as goal

pub loop-place-preserved : goal.loop-place-preserved
loop-place-preserved c =
    let inv = c.loop-place.invariant in
    let put = c.end_with-last.ensures in
    let items : List ℕ = c.args.items.now in
    let place : ℕ = c.loop-place.place in
    let there : place < length items = omega (arith, c.loop-place-test.true, c.requires.there) in
    record {
      past = omega (arith, inv.past, put.past);
      before = put.before;
      none = λ number among low high. elim (among_split items c.args.places.0 place number among) [
        | inl earlier ↦ inv.none number earlier (omega (arith, low, put.past)) high
        | inr here ↦
            let less = put.none (omega (arith, here, high)) in
            omega (arith, less, here, low)
      ];
    }
