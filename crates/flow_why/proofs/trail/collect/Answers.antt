use Rattle.std.proofs.Common.{false, sym, subst}
use Rattle.std.proofs.lemmas.Result.{on_ok_weaker}
use Rattle.flow_why.specs.code.Found.{IsOrderly, MarkList, marks_of}
use Rattle.flow_why.specs.code.Trails.{IsFollowed, IsTrail, trail_of}
use Rattle.flow_why.specs.declared.trail.Origin.TheVariants as origin
use Rattle.flow_why.proofs.trails.Collecting.{collected_below, collected_here, own_trail}
use Rattle.flow_why.proofs.trail.collect.Goals as goal

pub follow-requires-clause-trail : goal.follow-requires-clause-trail
follow-requires-clause-trail c =
    let frame = c.args.frame.now in
    subst (λ m. IsTrail (trail_of frame false c.args.claim) m) (sym c.marks-marks.ensures)
    (own_trail frame c.requires.frame c.args.search.now c.args.claim c.requires.marks)

pub returns-in-Beginning : goal.returns-in-Beginning
returns-in-Beginning c =
    let frame = c.args.frame.now in
    let old = c.args.hops.now.items in
    let new = c.follow.new.hops.items in
    let trail = trail_of frame false c.args.claim in
    let followed = subst (λ end. IsFollowed trail c.marks-marks.result.now c.args.place old end new) c.in-Beginning.is c.in_ok-follow.ensures in
    collected_here frame c.requires.frame c.args.claim (marks_of c.args.search.now c.args.claim)
    (subst IsOrderly c.marks-marks.ensures c.count.ensures.orderly) (c.requires.marks.each c.args.claim).points c.args.place c.requires.within old
    c.in-Beginning.field-0 new
    (subst (λ (m : MarkList). IsFollowed trail m c.args.place old (origin.Beginning c.in-Beginning.field-0) new) c.marks-marks.ensures followed)

pub follow_base-requires-clause-there : goal.follow_base-requires-clause-there
follow_base-requires-clause-there c =
    (subst (λ end. IsFollowed (trail_of c.args.frame.now false c.args.claim) c.marks-marks.result.now c.args.place c.args.hops.now.items end
    c.follow.new.hops.items) c.in-Base.is c.in_ok-follow.ensures).is

pub returns-in-Base : goal.returns-in-Base
returns-in-Base c =
    let frame = c.args.frame.now in
    let old = c.args.hops.now.items in
    let middle = c.follow.new.hops.items in
    let new = c.follow_base.new.hops.items in
    let trail = trail_of frame false c.args.claim in
    let followed = subst (λ end. IsFollowed trail c.marks-marks.result.now c.args.place old end middle) c.in-Base.is c.in_ok-follow.ensures in
    on_ok_weaker c.follow_base.result
    (λ below. collected_below frame c.requires.frame c.args.claim (marks_of c.args.search.now c.args.claim)
    (subst IsOrderly c.marks-marks.ensures c.count.ensures.orderly) (c.requires.marks.each c.args.claim).points c.args.place c.requires.within old
    c.in-Base.point middle new
    (subst (λ (m : MarkList). IsFollowed trail m c.args.place old (origin.Base c.in-Base.point) middle) c.marks-marks.ensures followed) below)
    c.follow_base.ensures
