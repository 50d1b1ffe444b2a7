use Rattle.std.proofs.Common.{◌≡◌, ◌<◌, ◌≤◌, ◌+◌, ◌*◌, ℕ, List, length, get_or, replicate, false, arith, ap, subst, sym, ◌∙◌}
use Rattle.worklist.specs.Tables.MarkWords.{AreMarkWords}
use Rattle.std.proofs.lemmas.List.{length-replicate, get_or-replicate}
use Rattle.worklist.proofs.words.MarkLemmas.{blank, blank_marks}
use Rattle.worklist.proofs.worklist.Worklist.none.Goals as goal

zeros : (words : List ℕ) (n : ℕ) → words ≡ replicate n 0 → (k : ℕ) → k < length words → get_or words k 0 ≡ 0
zeros words n is k low =
    let same : length words ≡ n = ap length is ∙ length-replicate n 0 in
    let below : k < n = omega arith in
    ap (λ ws. get_or ws k 0) is ∙ get_or-replicate n k 0 0 below

pub invariant_of-result : goal.invariant_of-result
invariant_of-result c =
    let is = c.in_ok-vec.ensures.items_if_clones_equal (λ y e. e) in
    let words : List ℕ = c.in_ok-vec.field-0.items in
    let same : length words ≡ c.words_for.result = ap length is ∙ length-replicate c.words_for.result 0 in
    let up = c.words_for.ensures in
    let enough : c.points-points.result ≤ 64 * length words = omega (arith, up, same) in
    let full : 64 * length words < c.points-points.result + 64 = omega (arith, up, same) in
    let few = c.points-points.ensures.order.few in
    let made = c.points-points.ensures.count in
    let count : c.points-points.result ≡ length c.in_ok-copy.field-0 = c.points-points.ensures.count ∙ ap length (sym c.in_ok-copy.ensures) in
    subst (λ n. AreMarkWords n words) count
    (blank words c.points-points.result (omega (arith, few, made)) enough full (zeros words c.words_for.result is))

pub returns : goal.returns
returns c =
    let is = c.in_ok-vec.ensures.items_if_clones_equal (λ y e. e) in
    blank_marks c.in_ok-vec.field-0.items c.in_ok-copy.field-0 (zeros c.in_ok-vec.field-0.items c.words_for.result is)
    ∙ ap (λ order. replicate (length order) false) c.in_ok-copy.ensures
