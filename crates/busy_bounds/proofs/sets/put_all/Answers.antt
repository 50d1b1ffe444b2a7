use Rattle.std.proofs.Common.{◌∙◌, ◌<◌, ℕ, List, length, inl, sym, arith}
use Rattle.std.proofs.lemmas.Grind.{get_or_default_zero}
use Rattle.busy_bounds.proofs.sets_left.Growing.{up_to_more}
use Rattle.busy_bounds.proofs.sets.put_all.Goals as goal

pub loop-place-preserved : goal.loop-place-preserved
loop-place-preserved c =
    let old : List ℕ = c.args.items.now.items in
    let mid : List ℕ = c.loop-place.items.items in
    let place : ℕ = c.loop-place.place in
    let low : place < length old = omega (arith, c.loop-place-test.true, c.requires.there) in
    let there : place < length mid = omega (arith, low, c.loop-place.invariant.grows.count) in
    up_to_more (λ number. ⊥) old mid c.put_once.new.items.items c.args.from place c.args.start c.index-number.result.now low c.loop-place.invariant
    c.in_ok-put_once.ensures.grows (sym (c.index-number.ensures ∙ get_or_default_zero mid place c.index-number.result.now there))
    (inl c.in_ok-put_once.ensures.has)
