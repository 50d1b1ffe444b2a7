-- How marks are followed back to where a search begins.
use Rattle.std.specs.Prelude.{◌≡◌, ◌<◌, ◌≤◌, ◌+◌, ◌*◌, ℕ, Bool, true, false, List, length, reverse, if◌then◌else◌}
use Rattle.flow_graph.specs.Paths.{Transfer, root}
use Rattle.flow_graph.specs.Points.{point_count}
use Rattle.flow_links.specs.Shapes.{LinkedProgram, directed_shape}
use Rattle.flow_why.specs.code.Closed.{idle_transfer, whole_scope}
use Rattle.flow_why.specs.code.Found.{IsBefore, MarkList, mark_at, nothing_found, point_at}
use Rattle.flow_why.specs.code.Frames.{IsFrame, is_asked, question_of, transfer_for}
use Rattle.flow_why.specs.code.Marked.{AreMarks, BaseHas, BeginsAt, Question, is_inner}
use Rattle.flow_why.specs.code.Moves.{Lead, Moves}
use Rattle.flow_why.specs.declared.claim.Claim.{Claim}
use Rattle.flow_why.specs.declared.claim.Claim.TheVariants as claim
use Rattle.flow_why.specs.declared.frame.Frame.{Frame}
use Rattle.flow_why.specs.declared.hop.Effect.{Effect}
use Rattle.flow_why.specs.declared.hop.Effect.TheVariants.{Reaches, Generates, Preserves}
use Rattle.flow_why.specs.declared.hop.Hop.{Hop}
use Rattle.flow_why.specs.declared.hop.Hop.TheVariants as hop
use Rattle.flow_why.specs.declared.mark.Mark.{Mark}
use Rattle.flow_why.specs.declared.mark.Reason.{Reason}
use Rattle.flow_why.specs.declared.mark.Reason.TheVariants.{Beginning, Own, Base}
use Rattle.flow_why.specs.declared.trail.Origin.{Origin}
use Rattle.flow_why.specs.declared.trail.Turn.{Turn}
use Rattle.flow_why.specs.declared.trail.Turn.TheVariants as turn
use Rattle.flow_why.specs.declared.trail.Origin.TheVariants as origin

-- the point from which a hop leads
abbrev pub hop_source : Hop → ℕ
hop_source (hop.Step x y) = x
hop_source (hop.Enter site x y) = x
hop_source (hop.Pass site x callee y effect) = x

-- the question of a search for where paths lead: for a bit that is always there, of which nothing is said
abbrev pub base_question : LinkedProgram → Question
base_question linked = record {
  shape = directed_shape linked;
  backward = linked.backward;
  points = point_count linked.program;
  transfer = idle_transfer;
  value = false;
  base = nothing_found (point_count linked.program);
  scope = whole_scope;
}

-- a frame with a bit, over what was found of where paths lead
pub record IsAskedFrame (frame : Frame) : Type 0 where
  pub formed : IsFrame frame
  pub asked : is_asked frame.asked ≡ true
  pub based : AreMarks (base_question frame.links.now) frame.base.now

-- a list of marks that is followed: of which search it is, and which claim
pub record Trail : Type 0 where
  pub question : Question
  pub kind : Claim
  pub transfer : Transfer

-- the list of a claim, of the search for the bit, or of the one for where paths lead
abbrev pub trail_of : Frame → Bool → Claim → Trail
trail_of frame based kind =
    record { question = if based then base_question frame.links.now else question_of frame; kind = kind; transfer = transfer_for frame }

-- why a point of the list is marked
abbrev pub IsTrailReason : Trail → List Mark → ℕ → ℕ → Reason → Type 0
IsTrailReason trail found n x Beginning = BeginsAt trail.question trail.kind x
IsTrailReason trail found n x (Own hop) =
    (y : ℕ) × IsBefore found n y
    × Moves trail.question.shape trail.transfer (is_inner trail.kind) y trail.question.value hop x trail.question.value
IsTrailReason trail found n x (Base hop) =
    (y : ℕ) × BaseHas trail.question.base trail.kind y
    × Moves trail.question.shape trail.transfer (is_inner trail.kind) y false hop x true × (trail.question.value ≡ true)

pub record IsTrail (trail : Trail) (marks : MarkList) : Type 0 where
  pub reasons : (i : ℕ) → i < length marks.found → IsTrailReason trail marks.found i (point_at marks.found i) (mark_at marks.found i).reason

-- Hops were put behind others, last hop first: where those led on from a point to some other, these lead there from the point before.
abbrev pub LeadOn : Trail → ℕ → Bool → List Hop → ℕ → Bool → List Hop → Type 0
LeadOn trail x v old z u new =
    (y : ℕ) (w : Bool) → Lead trail.question.shape trail.transfer (is_inner trail.kind) x v (reverse old) y w
    → Lead trail.question.shape trail.transfer (is_inner trail.kind) z u (reverse new) y w

-- where following ended: the list begins there, or it hangs on a point to which paths lead
abbrev pub IsOrigin : Trail → Origin → Type 0
IsOrigin trail (origin.Beginning x) = BeginsAt trail.question trail.kind x
IsOrigin trail (origin.Base x) = BaseHas trail.question.base trail.kind x

abbrev pub origin_point : Origin → ℕ
origin_point (origin.Beginning x) = x
origin_point (origin.Base x) = x

abbrev pub origin_value : Trail → Origin → Bool
origin_value trail (origin.Beginning x) = trail.question.value
origin_value trail (origin.Base x) = false

-- a list was followed back from a place
pub record IsFollowed (trail : Trail) (marks : MarkList) (place : ℕ) (old : List Hop) (end : Origin) (new : List Hop) : Type 0 where
  pub is : IsOrigin trail end
  pub leads : LeadOn trail (point_at marks.found place) trail.question.value old (origin_point end) (origin_value trail end) new
  pub count : length new ≤ length old + place + 1

-- what one turn does: it ends, or it goes on at a place before
abbrev pub IsTurn : Trail → MarkList → ℕ → List Hop → List Hop → Turn → Type 0
IsTurn trail marks place old new (turn.Ends end) =
    IsOrigin trail end × LeadOn trail (point_at marks.found place) trail.question.value old (origin_point end) (origin_value trail end) new
    × (length new ≤ length old + 1)
IsTurn trail marks place old new (turn.On before) =
    (before < place) × LeadOn trail (point_at marks.found place) trail.question.value old (point_at marks.found before) trail.question.value new
    × (length new ≡ length old + 1)

-- the claim of the base on which a claim hangs
abbrev pub claim_below : Claim → Claim
claim_below claim.Holds = claim.Holds
claim_below claim.Generated = claim.Preserved
claim_below claim.Preserved = claim.Preserved

-- the hops by which paths lead to a point were put behind others
pub record AreBaseHops (frame : Frame) (c : Claim) (point : ℕ) (old new : List Hop) : Type 0 where
  pub start : ℕ
  pub is : BeginsAt (base_question frame.links.now) (claim_below c) start
  pub leads : LeadOn (trail_of frame true (claim_below c)) point false old start false new
  pub count : length new ≤ length old + point_count frame.links.now.program

-- where the hops of a claim begin: the root, with the boundary where the bit is spoken of, or an entry
abbrev pub IsStart : Question → Claim → ℕ → Bool → Type 0
IsStart question claim.Holds x v = (x ≡ root question.shape) × (v ≡ true → question.transfer.boundary ≡ true)
IsStart question claim.Generated x v = (v ≡ false) × ((p : ℕ) × (p < question.shape.procedures) × (x ≡ question.shape.entry p))
IsStart question claim.Preserved x v = (v ≡ true) × ((p : ℕ) × (p < question.shape.procedures) × (x ≡ question.shape.entry p))

-- all hops of a mark were put behind others
pub record AreCollected (question : Question) (c : Claim) (point : ℕ) (old new : List Hop) : Type 0 where
  pub start : ℕ
  pub value : Bool
  pub is : IsStart question c start value
  pub leads : LeadOn (record { question = question; kind = c; transfer = question.transfer }) point true old start value new
  pub count : length new ≤ length old + 2 * question.points

-- the hops by which a point is marked
pub record AreHops (question : Question) (c : Claim) (point : ℕ) (hops : List Hop) : Type 0 where
  pub start : ℕ
  pub value : Bool
  pub is : IsStart question c start value
  pub lead : Lead question.shape question.transfer (is_inner c) start value hops point true
  pub count : length hops ≤ 2 * question.points

-- the effect that a claim of paths inside procedures has at an exit
abbrev pub claim_effect : Claim → Effect
claim_effect claim.Holds = Reaches
claim_effect claim.Generated = Generates
claim_effect claim.Preserved = Preserves

-- the hops by which paths inside a procedure lead to a point
pub record AreInnerHops (question : Question) (point : ℕ) (hops : List Hop) : Type 0 where
  pub start : ℕ
  pub is : BeginsAt question claim.Preserved start
  pub lead : Lead question.shape question.transfer true start false hops point false
