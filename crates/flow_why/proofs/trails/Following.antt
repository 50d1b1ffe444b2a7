-- Marks followed back, one after the other
use Rattle.std.proofs.Common.{◌≡◌, ◌<◌, ℕ, Bool, true, false, List, [], ◌∷◌, ◌++◌, length, reverse, arith, refl, sym, ◌∙◌, subst}
use Rattle.std.proofs.Math.ListN.{length-append}
use Rattle.std.proofs.lemmas.List.{reverse-append}
use Rattle.flow_why.specs.code.Found.{IsPlaceOf, IsThere, MarkList, point_at}
use Rattle.flow_why.specs.code.Marked.{BaseHas, BeginsAt, is_inner}
use Rattle.flow_why.specs.code.Moves.{Lead, Moves, moves_by_step, moves_into_call, moves_past_call}
use Rattle.flow_why.specs.code.Trails.{IsTrailReason, IsTurn, LeadOn, Trail, hop_source}
use Rattle.flow_why.specs.declared.hop.Hop.{Hop}
use Rattle.flow_why.specs.declared.mark.Reason.TheVariants.{Own, Base}
use Rattle.flow_why.specs.declared.trail.Origin.TheVariants as origin
use Rattle.flow_why.specs.declared.trail.Turn.TheVariants as turn
use Rattle.flow_graph.specs.Paths.{Shape, Transfer}
use Rattle.flow_why.proofs.unfoldings.Moving.{lead_more}

-- a hop leads from its source
pub source_is : (shape : Shape) (transfer : Transfer) (inner : Bool) (x : ℕ) (v : Bool) (one : Hop) (y : ℕ) (w : Bool)
    → Moves shape transfer inner x v one y w → hop_source one ≡ x
source_is shape transfer inner _ _ _ _ _ (moves_by_step x y v w edge inside crosses) = refl
source_is shape transfer inner _ _ _ _ _ (moves_into_call site x y v outer edge) = refl
source_is shape transfer inner _ _ _ _ _ (moves_past_call site x procedure z v w effect call return inside rises is through) = refl

last_first : (hops : List Hop) (one : Hop) → reverse (hops ++ one ∷ []) ≡ one ∷ reverse hops
last_first hops one = reverse-append hops (one ∷ [])

module _ (trail : Trail) where
  pub lead_same : (x : ℕ) (v : Bool) (hops : List Hop) → LeadOn trail x v hops x v hops
  lead_same x v hops y w lead = lead

  pub lead_on : (x : ℕ) (v : Bool) (a : List Hop) (y : ℕ) (w : Bool) (b : List Hop) (z : ℕ) (u : Bool) (c : List Hop)
      → LeadOn trail x v a y w b → LeadOn trail y w b z u c → LeadOn trail x v a z u c
  lead_on x v a y w b z u c first second t s lead = second t s (first t s lead)

  -- one more hop
  pub lead_back : (x : ℕ) (v : Bool) (hops : List Hop) (one : Hop) (z : ℕ) (u : Bool)
      → Moves trail.question.shape trail.transfer (is_inner trail.kind) z u one x v → LeadOn trail x v hops z u (hops ++ one ∷ [])
  lead_back x v hops one z u move y w lead =
      subst (λ list. Lead trail.question.shape trail.transfer (is_inner trail.kind) z u list y w) (sym (last_first hops one))
      (lead_more trail.question.shape trail.transfer (is_inner trail.kind) z u one x v (reverse hops) y w move lead)

  module _ (marks : MarkList) (place : ℕ) (hops : List Hop) where
    pub begins_turn : BeginsAt trail.question trail.kind (point_at marks.found place)
        → IsTurn trail marks place hops hops (turn.Ends (origin.Beginning (point_at marks.found place)))
    begins_turn begins = (begins, lead_same (point_at marks.found place) trail.question.value hops, omega arith)

    pub own_turn : (one : Hop) (before : ℕ)
        → IsTrailReason trail marks.found place (point_at marks.found place) (Own one) → IsPlaceOf marks (hop_source one) before
        → place < length marks.found
        → IsTurn trail marks place hops (hops ++ one ∷ []) (turn.On before)
    own_turn one before is there within =
        let (y, earlier, move) = is in
        let from : hop_source one ≡ y =
        source_is trail.question.shape trail.transfer (is_inner trail.kind) y trail.question.value one
        (point_at marks.found place) trail.question.value move in
        let same : before ≡ earlier.0 = there.only earlier.0 (omega (arith, earlier.1, within)) (earlier.2 ∙ sym from) in
        let at : y ≡ point_at marks.found before = sym from ∙ sym there.there in (
          omega (arith, same, earlier.1),
          subst (λ z. LeadOn trail (point_at marks.found place) trail.question.value hops z trail.question.value (hops ++ one ∷ [])) at
              (lead_back (point_at marks.found place) trail.question.value hops one y trail.question.value move),
          length-append hops (one ∷ []),
        )

    pub base_turn : (one : Hop) → IsTrailReason trail marks.found place (point_at marks.found place) (Base one)
        → IsTurn trail marks place hops (hops ++ one ∷ []) (turn.Ends (origin.Base (hop_source one)))
    base_turn one is =
        let (y, based, move, asked) = is in
        let from : hop_source one ≡ y =
        source_is trail.question.shape trail.transfer (is_inner trail.kind) y false one (point_at marks.found place) true move in (
          subst (BaseHas trail.question.base trail.kind) (sym from) based,
          subst (λ z. LeadOn trail (point_at marks.found place) trail.question.value hops z false (hops ++ one ∷ [])) (sym from)
              (lead_back (point_at marks.found place) trail.question.value hops one y false
              (subst (λ b. Moves trail.question.shape trail.transfer (is_inner trail.kind) y false one (point_at marks.found place) b)
              (sym asked) move)),
          omega (arith, length-append hops (one ∷ [])),
        )

    -- the source of a hop by which a point was marked is marked
    pub own_there : (one : Hop) → IsTrailReason trail marks.found place (point_at marks.found place) (Own one) → place < length marks.found
        → IsThere marks (hop_source one)
    own_there one is within =
        let (y, earlier, move) = is in
        let from : hop_source one ≡ y =
        source_is trail.question.shape trail.transfer (is_inner trail.kind) y trail.question.value one
        (point_at marks.found place) trail.question.value move in
        (earlier.0, omega (arith, earlier.1, within), earlier.2 ∙ sym from)
