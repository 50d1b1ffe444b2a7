use Rattle.std.proofs.Common.{sym, ◌∙◌, ap, subst}
use Rattle.flow_why.specs.code.Found.{IsPlaceOf, IsThere, point_at}
use Rattle.flow_why.specs.code.Trails.{IsTrailReason, IsTurn, hop_source, trail_of}
use Rattle.flow_why.specs.declared.mark.Mark.{Mark}
use Rattle.flow_why.specs.declared.trail.Origin.TheVariants as origin
use Rattle.flow_why.specs.declared.trail.Turn.TheVariants as turn
use Rattle.flow_why.proofs.trails.Following.{base_turn, own_there, own_turn}
use Rattle.flow_why.proofs.trail.turn_back.Goals as goal

pub place_of-requires-clause-there : goal.place_of-requires-clause-there
place_of-requires-clause-there c =
    let marks = c.args.marks.now in
    let place = c.args.place in
    let trail = trail_of c.args._frame.now c.args._based c.args._claim in
    let reason = subst (IsTrailReason trail marks.found place (point_at marks.found place))
    (sym (ap (λ (m : Mark). m.reason) c.mark-mark.ensures.is) ∙ c.in-Own.is) (c.requires.trail.reasons place c.requires.within) in
    subst (λ n. IsThere marks n) (sym c.source.ensures) (own_there trail marks place c.args.hops.now.items c.in-Own.hop reason c.requires.within)

pub returns-in_ok-push-in-Own : goal.returns-in_ok-push-in-Own
returns-in_ok-push-in-Own c =
    let marks = c.args.marks.now in
    let place = c.args.place in
    let hops = c.args.hops.now.items in
    let trail = trail_of c.args._frame.now c.args._based c.args._claim in
    let reason = subst (IsTrailReason trail marks.found place (point_at marks.found place))
    (sym (ap (λ (m : Mark). m.reason) c.mark-mark.ensures.is) ∙ c.in-Own.is) (c.requires.trail.reasons place c.requires.within) in
    subst (λ items. IsTurn trail marks place hops items (turn.On c.place_of.result)) (sym c.in_ok-push-in-Own.ensures.items)
    (own_turn trail marks place hops c.in-Own.hop c.place_of.result reason
    (subst (λ n. IsPlaceOf marks n c.place_of.result) c.source.ensures c.place_of.ensures) c.requires.within)

pub returns-in_ok-push-in-Base : goal.returns-in_ok-push-in-Base
returns-in_ok-push-in-Base c =
    let marks = c.args.marks.now in
    let place = c.args.place in
    let hops = c.args.hops.now.items in
    let trail = trail_of c.args._frame.now c.args._based c.args._claim in
    let reason = subst (IsTrailReason trail marks.found place (point_at marks.found place))
    (sym (ap (λ (m : Mark). m.reason) c.mark-mark.ensures.is) ∙ c.in-Base.is) (c.requires.trail.reasons place c.requires.within) in
    subst (λ n. IsTurn trail marks place hops c.push-in-Base.new.self.items (turn.Ends (origin.Base n))) (sym c.source-in-Base.ensures)
    (subst (λ items. IsTurn trail marks place hops items (turn.Ends (origin.Base (hop_source c.in-Base.hop))))
    (sym c.in_ok-push-in-Base.ensures.items)
    (base_turn trail marks place hops c.in-Base.hop reason))
