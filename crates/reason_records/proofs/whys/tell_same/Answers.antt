use Rattle.std.proofs.Common.{◌≡◌, slice_index_or, ap, arith, subst, sym}
use Rattle.std.proofs.lemmas.Option.{slice_get-get_or}
use Rattle.flow_why.specs.code.Ways.{AskedBit}
use Rattle.gen_kill.specs.Selections.{Selection}
use Rattle.reason_records.specs.code.Whys.{IsAskedIn, IsToldMore}
use Rattle.reason_records.proofs.answers.ManyWhys.{longer, no_why, one_more}
use Rattle.reason_records.proofs.whys.tell_same.Goals as goal

pub loop-at-init : goal.loop-at-init
loop-at-init c =
    let form : c.in_ok-why.why.form ≡ c.args.problem.now = ap (λ (b : AskedBit). b.form) c.in_ok-why.ensures in
    let asked = c.args.asked.now in
    let from = c.args.from in
    let old = c.args.told.now in
    let new = c.tell.new.told in
    let more = subst (λ (s : Selection). IsToldMore s (slice_index_or asked from no_why) old.whys.items new.whys.items old.hops.items new.hops.items)
    form c.in_ok-tell.ensures in (
      omega arith,
      omega (arith, c.requires.from),
      λ number before. one_more c.args.problem.now number asked from
          (slice_index_or asked from no_why) old.whys.items new.whys.items old.hops.items new.hops.items (longer asked from c.requires.from) more before,
    )

pub tell-requires-in-loop-at-clause-there : goal.tell-requires-in-loop-at-clause-there
tell-requires-in-loop-at-clause-there c =
    let form : c.in_ok-why.why.form ≡ c.args.problem.now = ap (λ (b : AskedBit). b.form) c.in_ok-why.ensures in
    subst (λ (s : Selection). IsAskedIn s (slice_index_or c.args.asked.now c.loop-at.at no_why)) (sym form)
    (c.requires.there c.loop-at.at _ (slice_get-get_or c.args.asked.now c.loop-at.at no_why c.loop-at-test.true))

pub loop-at-preserved : goal.loop-at-preserved
loop-at-preserved c =
    let form : c.in_ok-why.why.form ≡ c.args.problem.now = ap (λ (b : AskedBit). b.form) c.in_ok-why.ensures in
    let asked = c.args.asked.now in
    let at = c.loop-at.at in
    let old = c.loop-at.told in
    let new = c.tell-in-loop-at.new.told in
    let kept = c.loop-at.invariant in
    let more = subst (λ (s : Selection). IsToldMore s (slice_index_or asked at no_why) old.whys.items new.whys.items old.hops.items new.hops.items)
    form c.in_ok-tell-2.ensures in (
      omega (arith, kept.0),
      omega (arith, c.loop-at-test.true),
      λ number before. one_more c.args.problem.now number asked at
          (slice_index_or asked at no_why) old.whys.items new.whys.items old.hops.items new.hops.items (longer asked at c.loop-at-test.true) more
          (kept.2 number before),
    )

pub returns-then-not-is_asked_again-clause-told : goal.returns-then-not-is_asked_again-clause-told
returns-then-not-is_asked_again-clause-told c number before =
    let asked = c.args.asked.now in
    let from = c.args.from in
    let old = c.args.told.now in
    let new = c.tell_alone.new.told in
    one_more c.args.problem.now number asked from (slice_index_or asked from no_why) old.whys.items new.whys.items old.hops.items new.hops.items
    (longer asked from c.requires.from) c.in_ok-tell_alone.ensures before
