-- What the marks of a search say: each point is marked for a reason, which rests on points that were marked before.
use Rattle.std.specs.Prelude.{◌≡◌, ◌<◌, ℕ, Bool, true, false, List, length}
use Rattle.flow_graph.specs.Paths.{Shape, Transfer, root}
use Rattle.flow_why.specs.code.Closed.{Family, Scope}
use Rattle.flow_why.specs.code.Found.{Found, Grows, Has, IsBefore, MarkList, mark_at, marks_of, point_at}
use Rattle.flow_why.specs.code.Moves.{Moves}
use Rattle.flow_why.specs.declared.claim.Claim.{Claim}
use Rattle.flow_why.specs.declared.claim.Claim.TheVariants as claim
use Rattle.flow_why.specs.declared.mark.Mark.{Mark}
use Rattle.flow_why.specs.declared.mark.Reason.{Reason}
use Rattle.flow_why.specs.declared.mark.Reason.TheVariants.{Beginning, Own, Base}

-- What a search is for: a shape with its direction and number of points, a transfer, whether the bit is spoken of, where paths lead, and what
-- is left out.
pub record Question : Type 0 where
  pub shape : Shape
  pub backward : Bool
  pub points : ℕ
  pub transfer : Transfer
  pub value : Bool
  pub base : Found
  pub scope : Scope

-- valid paths lead to a point, where it may hold the bit; paths inside procedures do, where it may be generated
abbrev pub BaseHas : Found → Claim → ℕ → Type 0
BaseHas base claim.Holds x = Has base claim.Holds x
BaseHas base claim.Generated x = Has base claim.Preserved x
BaseHas base claim.Preserved x = ⊥

-- a claim that is of paths inside procedures
abbrev pub is_inner : Claim → Bool
is_inner claim.Holds = false
is_inner claim.Generated = true
is_inner claim.Preserved = true

-- where a claim begins: at the root, if the boundary has the bit, and at entries
abbrev pub BeginsAt : Question → Claim → ℕ → Type 0
BeginsAt question claim.Holds x = (x ≡ root question.shape) × (question.transfer.boundary ≡ true)
BeginsAt question claim.Generated x = ⊥
BeginsAt question claim.Preserved x = (p : ℕ) × (p < question.shape.procedures) × (x ≡ question.shape.entry p)

-- a reason to mark a point behind so many marks
abbrev pub IsReason : Question → Claim → List Mark → ℕ → ℕ → Reason → Type 0
IsReason question c found n x Beginning = BeginsAt question c x
IsReason question c found n x (Own hop) =
    (y : ℕ) × IsBefore found n y × Moves question.shape question.transfer (is_inner c) y question.value hop x question.value
IsReason question c found n x (Base hop) =
    (y : ℕ) × BaseHas question.base c y × Moves question.shape question.transfer (is_inner c) y false hop x true

-- the marks of a claim
pub record AreMarksOf (question : Question) (c : Claim) (marks : MarkList) : Type 0 where
  pub points : marks.points ≡ question.points
  pub sound : (i : ℕ) → i < length marks.found → Family question.shape question.transfer c (point_at marks.found i)
  pub reasons : (i : ℕ) → i < length marks.found → IsReason question c marks.found i (point_at marks.found i) (mark_at marks.found i).reason

pub record AreMarks (question : Question) (found : Found) : Type 0 where
  pub each : (c : Claim) → AreMarksOf question c (marks_of found c)

-- a part of a visit keeps marks, and those that it adds are right
pub record Spreads (question : Question) (old new : Found) : Type 0 where
  pub grows : Grows old new
  pub marks : AreMarks question new

-- a point may be marked
pub record MayMark (question : Question) (c : Claim) (found : Found) (x : ℕ) (reason : Reason) : Type 0 where
  pub within : x < question.points
  pub sound : Family question.shape question.transfer c x
  pub is : IsReason question c (marks_of found c).found (length (marks_of found c).found) x reason
