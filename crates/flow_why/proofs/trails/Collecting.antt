-- The hops of a mark, back to where its search begins
use Rattle.std.proofs.Common.{◌≡◌, ◌<◌, ℕ, Bool, true, false, List, [], length, reverse, arith, refl, sym, ◌∙◌, ap, subst}
use Rattle.flow_graph.specs.Paths.{Shape, Transfer}
use Rattle.flow_graph.specs.Points.{point_count}
use Rattle.flow_links.specs.Shapes.{directed_shape}
use Rattle.flow_why.specs.Witnesses.{HasEffect}
use Rattle.flow_why.specs.code.Closed.{idle_transfer}
use Rattle.flow_why.specs.code.Found.{Found, IsOrderly, IsPlaceOf, IsThere, MarkList, marks_of, nothing_found, point_at}
use Rattle.flow_why.specs.code.Frames.{question_of, transfer_for}
use Rattle.flow_why.specs.code.Marked.{AreMarks, BaseHas, BeginsAt, IsReason, Question, is_inner}
use Rattle.flow_why.specs.code.Moves.{Crosses, Lead, Moves, moves_by_step, moves_into_call, moves_past_call, effect_between}
use Rattle.flow_why.specs.code.Trails.{AreBaseHops, AreCollected, AreHops, AreInnerHops, IsAskedFrame, IsFollowed}
use Rattle.flow_why.specs.code.Trails.{IsStart, IsTrail, IsTrailReason, LeadOn}
use Rattle.flow_why.specs.code.Trails.{base_question, claim_below, trail_of}
use Rattle.flow_why.specs.declared.claim.Claim.{Claim}
use Rattle.flow_why.specs.declared.claim.Claim.TheVariants as claim
use Rattle.flow_why.specs.declared.frame.Frame.{Frame}
use Rattle.flow_why.specs.declared.hop.Effect.TheVariants.{Reaches}
use Rattle.flow_why.specs.declared.hop.Hop.{Hop}
use Rattle.flow_why.specs.declared.mark.Reason.{Reason}
use Rattle.flow_why.specs.declared.mark.Reason.TheVariants.{Beginning, Own, Base}
use Rattle.flow_why.specs.declared.trail.Origin.{Origin}
use Rattle.flow_why.specs.declared.trail.Origin.TheVariants as origin
use Rattle.flow_why.proofs.unfoldings.Moving.{lead_none}

-- a hop of which nothing is said of the bit is one for any bit
moves_any : (shape : Shape) (idle transfer : Transfer) (inner : Bool) (x : ℕ) (v : Bool) (one : Hop) (y : ℕ) (w : Bool) → v ≡ false → w ≡ false
    → Moves shape idle inner x v one y w → Moves shape transfer inner x v one y w
moves_any shape idle transfer inner _ _ _ _ _ v_none w_none (moves_by_step x y v w edge inside crosses) =
    moves_by_step x y v w edge inside (subst (Crosses transfer x y v) (sym w_none) (subst (λ b. Crosses transfer x y b false) (sym v_none) tt))
moves_any shape idle transfer inner _ _ _ _ _ v_none w_none (moves_into_call site x y v outer edge) = moves_into_call site x y v outer edge
moves_any shape idle transfer inner _ _ _ _ _ v_none w_none (moves_past_call site x p z v w effect call return inside rises is through) =
    let reaches : effect ≡ Reaches = is ∙ ap (effect_between v) w_none in
    moves_past_call site x p z v w effect call return inside rises is
    (through.0, (through.1.0, subst (λ e. HasEffect transfer e through.0) (sym reaches) tt))

pub nothing_based : (points : ℕ) (c : Claim) (x : ℕ) → BaseHas (nothing_found points) c x → ⊥
nothing_based points claim.Holds x has = absurd (omega (arith, has.1))
nothing_based points claim.Generated x has = absurd (omega (arith, has.1))
nothing_based points claim.Preserved x has = has

-- a marked point is a point
pub there_low : (marks : MarkList) (x : ℕ) → IsOrderly marks → IsThere marks x → x < marks.points
there_low marks x orderly there = subst (λ n. n < marks.points) there.2 (orderly.within there.0 there.1)

module _ (frame : Frame) (is : IsAskedFrame frame) where
  own_reason : (c : Claim) (found : MarkList) (n x : ℕ) (reason : Reason) → IsReason (question_of frame) c found.found n x reason
      → IsTrailReason (trail_of frame false c) found.found n x reason
  own_reason c found n x Beginning reason = reason
  own_reason c found n x (Own one) reason = reason
  own_reason c found n x (Base one) reason = (reason.0, reason.1, reason.2, is.asked)

  pub own_trail : (found : Found) (c : Claim) → AreMarks (question_of frame) found → IsTrail (trail_of frame false c) (marks_of found c)
  own_trail found c are =
      record { reasons = λ i within. own_reason c (marks_of found c) i _ _ ((are.each c).reasons i within) }

  base_reason : (c : Claim) (found : MarkList) (n x : ℕ) (reason : Reason) → IsReason (base_question frame.links.now) c found.found n x reason
      → IsTrailReason (trail_of frame true c) found.found n x reason
  base_reason c found n x Beginning reason = reason
  base_reason c found n x (Own one) reason = (
    reason.0,
    reason.1,
    moves_any (directed_shape frame.links.now) idle_transfer (transfer_for frame) (is_inner c) reason.0 false one x false refl refl reason.2,
  )
  base_reason c found n x (Base one) reason = absurd (nothing_based (point_count frame.links.now.program) c reason.0 reason.1)

  pub base_trail : (c : Claim) → IsTrail (trail_of frame true c) (marks_of frame.base.now c)
  base_trail c =
      record { reasons = λ i within. base_reason c (marks_of frame.base.now c) i _ _ ((is.based.each c).reasons i within) }

  -- a point to which paths lead is marked in the base
  pub base_there : (c : Claim) (x : ℕ) → BaseHas frame.base.now c x → IsThere (marks_of frame.base.now (claim_below c)) x
  base_there claim.Holds x has = has
  base_there claim.Generated x has = has
  base_there claim.Preserved x has = absurd has

  -- what was followed in the base ends where its search begins
  pub base_followed : (c : Claim) (x place : ℕ) (old : List Hop) (end : Origin) (new : List Hop)
      → IsPlaceOf (marks_of frame.base.now (claim_below c)) x place
      → IsOrderly (marks_of frame.base.now (claim_below c))
      → IsFollowed (trail_of frame true (claim_below c)) (marks_of frame.base.now (claim_below c)) place old end new
      → AreBaseHops frame c x old new
  base_followed c x place old (origin.Beginning start) new at orderly followed = record {
    start = start;
    is = followed.is;
    leads = subst (λ y. LeadOn (trail_of frame true (claim_below c)) y false old start false new) at.there followed.leads;
    count = omega (arith, followed.count, at.within, orderly.room, (is.based.each (claim_below c)).points);
  }
  base_followed c x place old (origin.Base start) new at orderly followed =
      absurd (nothing_based (point_count frame.links.now.program) (claim_below c) start followed.is)

  own_start : (c : Claim) (x : ℕ) → BeginsAt (question_of frame) c x → IsStart (question_of frame) c x (question_of frame).value
  own_start claim.Holds x begins = (begins.0, λ asked. begins.1)
  own_start claim.Generated x begins = absurd begins
  own_start claim.Preserved x begins = (is.asked, begins)

  base_start : (c : Claim) (x : ℕ) → BaseHas frame.base.now c x → (y : ℕ) → BeginsAt (base_question frame.links.now) (claim_below c) y
      → IsStart (question_of frame) c y false
  base_start claim.Holds x has y begins = (begins.0, λ never. absurd (cc never))
  base_start claim.Generated x has y begins = (refl, begins)
  base_start claim.Preserved x has y begins = absurd has

  -- hops that lead in the base lead inside procedures as those of the claim do
  base_leads : (c : Claim) (x : ℕ) → BaseHas frame.base.now c x → (old : List Hop) (y : ℕ) (new : List Hop)
      → LeadOn (trail_of frame true (claim_below c)) x false old y false new → LeadOn (trail_of frame false c) x false old y false new
  base_leads claim.Holds x has old y new leads = leads
  base_leads claim.Generated x has old y new leads = leads
  base_leads claim.Preserved x has old y new leads = absurd has

  module _ (c : Claim) (marks : MarkList) (orderly : IsOrderly marks) (points : marks.points ≡ point_count frame.links.now.program) (place : ℕ)
      (within : place < length marks.found) (old : List Hop) where
    from_true : (point : ℕ) (end : ℕ) (value : Bool) (new : List Hop)
        → LeadOn (trail_of frame false c) point (question_of frame).value old end value new
        → LeadOn (trail_of frame false c) point true old end value new
    from_true point end value new leads = subst (λ v. LeadOn (trail_of frame false c) point v old end value new) is.asked leads

    pub collected_here : (start : ℕ) (new : List Hop) → IsFollowed (trail_of frame false c) marks place old (origin.Beginning start) new
        → AreCollected (question_of frame) c (point_at marks.found place) old new
    collected_here start new followed = record {
      start = start;
      value = (question_of frame).value;
      is = own_start c start followed.is;
      leads = from_true (point_at marks.found place) start (question_of frame).value new followed.leads;
      count = omega (arith, followed.count, within, orderly.room, points);
    }

    pub collected_below : (point : ℕ) (middle new : List Hop) → IsFollowed (trail_of frame false c) marks place old (origin.Base point) middle
        → AreBaseHops frame c point middle new → AreCollected (question_of frame) c (point_at marks.found place) old new
    collected_below point middle new followed below = record {
      start = below.start;
      value = false;
      is = base_start c point followed.is below.start below.is;
      leads = λ y w lead. base_leads c point followed.is middle below.start new below.leads y w
          (from_true (point_at marks.found place) point false middle followed.leads y w lead);
      count = omega (arith, followed.count, below.count, within, orderly.room, points);
    }

-- the hops from the first on
pub hops_from : (question : Question) (c : Claim) (point : ℕ) (hops reversed : List Hop) → AreCollected question c point [] hops
    → reversed ≡ reverse hops → length reversed ≡ length hops → AreHops question c point reversed
hops_from question c point hops reversed are same long = record {
  start = are.start;
  value = are.value;
  is = are.is;
  lead = subst (λ list. Lead question.shape question.transfer (is_inner c) are.start are.value list point true) (sym same)
      (are.leads point true (lead_none question.shape question.transfer (is_inner c) point true));
  count = omega (arith, are.count, long);
}

-- the same inside a procedure
pub inner_from : (frame : Frame) (point : ℕ) (hops reversed : List Hop) → AreBaseHops frame claim.Generated point [] hops → reversed ≡ reverse hops
    → AreInnerHops (question_of frame) point reversed
inner_from frame point hops reversed are same = record {
  start = are.start;
  is = are.is;
  lead = subst (λ list. Lead (directed_shape frame.links.now) (transfer_for frame) true are.start false list point false) (sym same)
      (are.leads point false (lead_none (directed_shape frame.links.now) (transfer_for frame) true point false));
}
