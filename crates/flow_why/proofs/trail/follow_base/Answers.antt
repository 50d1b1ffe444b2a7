use Rattle.std.proofs.Common.{true, ap, sym, subst, ◌∙◌}
use Rattle.flow_why.specs.code.Found.{IsOrderly, IsPlaceOf, IsThere, MarkList, marks_of}
use Rattle.flow_why.specs.code.Trails.{IsFollowed, IsTrail, trail_of}
use Rattle.flow_why.proofs.trails.Collecting.{base_followed, base_there, base_trail, there_low}
use Rattle.flow_why.proofs.trail.follow_base.Goals as goal

pub place_of-place-requires-clause-within : goal.place_of-place-requires-clause-within
place_of-place-requires-clause-within c =
    let frame = c.args.frame.now in
    let same = c.marks-marks.ensures ∙ ap (marks_of frame.base.now) c.base_claim-below.ensures in
    there_low c.marks-marks.result.now c.args.point c.count.ensures.orderly
    (subst (λ m. IsThere m c.args.point) (sym same) (base_there frame c.requires.frame c.args.claim c.args.point c.requires.there))

pub place_of-place-requires-clause-there : goal.place_of-place-requires-clause-there
place_of-place-requires-clause-there c =
    let frame = c.args.frame.now in
    let same = c.marks-marks.ensures ∙ ap (marks_of frame.base.now) c.base_claim-below.ensures in
    subst (λ m. IsThere m c.args.point) (sym same) (base_there frame c.requires.frame c.args.claim c.args.point c.requires.there)

pub follow-requires-clause-trail : goal.follow-requires-clause-trail
follow-requires-clause-trail c =
    let frame = c.args.frame.now in
    let below = c.base_claim-below.result in
    subst (λ m. IsTrail (trail_of frame true below) m) (sym c.marks-marks.ensures) (base_trail frame c.requires.frame below)

pub returns : goal.returns
returns c =
    let frame = c.args.frame.now in
    let below = c.base_claim-below.result in
    let place = c.place_of-place.result in
    let old = c.args.hops.now.items in
    let new = c.follow.new.hops.items in
    let end = c.in_ok-follow.field-0 in
    let same = c.marks-marks.ensures ∙ ap (marks_of frame.base.now) c.base_claim-below.ensures in
    let followed = subst (λ (m : MarkList). IsFollowed
    (trail_of frame true below) m place old end new) c.marks-marks.ensures c.in_ok-follow.ensures in
    base_followed frame c.requires.frame c.args.claim c.args.point place old end new
    (subst (λ m. IsPlaceOf m c.args.point place) same c.place_of-place.ensures)
    (subst IsOrderly same c.count.ensures.orderly)
    (subst (λ d. IsFollowed (trail_of frame true d) (marks_of frame.base.now d) place old end new) c.base_claim-below.ensures followed)
