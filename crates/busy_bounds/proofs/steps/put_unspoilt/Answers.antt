use Rattle.std.proofs.Common.{rules, ◌≡◌, ◌∙◌, ◌+◌, ◌<◌, ℕ, true, List, length, inl, inr, sym, subst, arith}
use Rattle.std.proofs.lemmas.Grind.{get_or_default_zero}
use Rattle.gen_kill.specs.Selections.{column_gens}
use Rattle.busy_bounds.specs.code.Sets.{IsAmong}
use Rattle.busy_bounds.proofs.sets_left.Growing.{HasUpTo, stays, up_to_more}
use Rattle.busy_bounds.proofs.steps.put_unspoilt.Goals.{then-not-spoils+in_ok-put_once, else-not-spoils}
use Rattle.busy_bounds.proofs.steps.put_unspoilt.Goals as goal

pub loop-place-preserved : goal.loop-place-preserved
loop-place-preserved c =
    let spoilt : ℕ → Type 0 = λ number. column_gens c.args.problem.now c.args.point number ≡ true in
    let old : List ℕ = c.args.items.now.items in
    let mid : List ℕ = c.loop-place.items.items in
    let place : ℕ = c.loop-place.place in
    let start : ℕ = length old in
    let low : place < length old = omega (arith, c.loop-place-test.true, c.requires.there) in
    let there : place < length mid = omega (arith, low, c.loop-place.invariant.grows.count) in
    let is = sym (c.index-number.ensures ∙ get_or_default_zero mid place c.index-number.result.now there) in
    let count : c.len-start.result ≡ start = search rules in
    elim c.if-not-spoils.branch [
      | then-not-spoils+in_ok-put_once w ↦
          subst (λ v. HasUpTo spoilt old v.items c.args.from (place + 1) start) (sym w.items-is)
          (up_to_more spoilt old mid w.put_once.new.items.items c.args.from place start c.index-number.result.now low c.loop-place.invariant
          w.in_ok-put_once.ensures.grows is (inl (subst (λ s. IsAmong w.put_once.new.items.items s (length w.put_once.new.items.items) c.index-number.result.now) count
          w.in_ok-put_once.ensures.has)))
      | else-not-spoils w ↦
          subst (λ v. HasUpTo spoilt old v.items c.args.from (place + 1) start) (sym w.items-is)
          (up_to_more spoilt old mid mid c.args.from place start c.index-number.result.now low c.loop-place.invariant (stays mid) is
          (inr (c.spoils.ensures w.if-not-spoils.false)))
    ]
