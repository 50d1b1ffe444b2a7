-- Lists of marked points, in the order in which they were marked.
use Rattle.std.specs.Prelude.{◌≡◌, ◌⊎◌, ◌<◌, ◌≤◌, ◌+◌, ◌-◌, ℕ, List, [], ◌∷◌, ◌++◌, length, slice_index, slice_index_or, nat_eq, sum_by}
use Rattle.std.specs.Prelude.{if◌then◌else◌}
use Rattle.flow_why.specs.declared.claim.Claim.{Claim}
use Rattle.flow_why.specs.declared.claim.Claim.TheVariants as claim
use Rattle.flow_why.specs.declared.mark.Mark.{Mark}
use Rattle.flow_why.specs.declared.mark.Reason.TheVariants.{Beginning}
use Rattle.tac_program.specs.Limits.{most_points}
use Rattle.tac_program.specs.declared.limits.Limits.TheVariants.{Large}

-- so many points of which some are marked, the marks in their order, and how many of them were taken up
pub record MarkList : Type 0 where
  pub points : ℕ
  pub found : List Mark
  pub taken : ℕ

-- the lists of a search, one for each claim
pub record Found : Type 0 where
  pub holds : MarkList
  pub generated : MarkList
  pub preserved : MarkList

abbrev pub marks_of : Found → Claim → MarkList
marks_of found claim.Holds = found.holds
marks_of found claim.Generated = found.generated
marks_of found claim.Preserved = found.preserved

-- a mark of a list, and its point
abbrev pub mark_at : List Mark → ℕ → Mark
mark_at found i = slice_index_or found i (record { point = 0; reason = Beginning })

abbrev pub point_at : List Mark → ℕ → ℕ
point_at found i = (mark_at found i).point

-- a point is marked among so many marks; among all of them; and among those that were taken up
abbrev pub IsBefore : List Mark → ℕ → ℕ → Type 0
IsBefore found n x = (i : ℕ) × (i < n) × (point_at found i ≡ x)

abbrev pub IsThere : MarkList → ℕ → Type 0
IsThere marks x = IsBefore marks.found (length marks.found) x

abbrev pub IsTakenUp : MarkList → ℕ → Type 0
IsTakenUp marks x = IsBefore marks.found marks.taken x

abbrev pub Has : Found → Claim → ℕ → Type 0
Has found c x = IsThere (marks_of found c) x

abbrev pub HasTaken : Found → Claim → ℕ → Type 0
HasTaken found c x = IsTakenUp (marks_of found c) x

-- the place of a point among the marks: the only one
pub record IsPlaceOf (marks : MarkList) (x place : ℕ) : Type 0 where
  pub within : place < length marks.found
  pub there : point_at marks.found place ≡ x
  pub only : (j : ℕ) → j < length marks.found → point_at marks.found j ≡ x → place ≡ j

-- how many places are 0
abbrev pub blank_places : List ℕ → ℕ
blank_places places = sum_by (λ place. if nat_eq place 0 then 1 else 0) places

-- For each point one more than its place among the marks, and 0 where it is not marked. Each point is marked once at most.
pub record IsIndexed (found : List Mark) (places : List ℕ) (taken : ℕ) : Type 0 where
  pub few : length places ≤ most_points Large
  pub within : (i : ℕ) → i < length found → point_at found i < length places
  pub placed : (i : ℕ) → i < length found → slice_index places (point_at found i) ≡ i + 1
  pub marked : (x i : ℕ) → x < length places → slice_index places x ≡ i + 1 → (i < length found) × (point_at found i ≡ x)
  pub room : length found + blank_places places ≡ length places
  pub up_to : taken ≤ length found

-- what a mark list tells of its numbers
pub record IsOrderly (marks : MarkList) : Type 0 where
  pub room : length marks.found ≤ marks.points
  pub within : (i : ℕ) → i < length marks.found → point_at marks.found i < marks.points

-- a mark was put: its point was there before, or it is the last of the marks
pub record IsPut (old : MarkList) (mark : Mark) (new : MarkList) : Type 0 where
  pub points : new.points ≡ old.points
  pub taken : new.taken ≡ old.taken
  pub found : (IsThere old mark.point × (new.found ≡ old.found)) ⊎ (new.found ≡ old.found ++ mark ∷ [])

-- a mark was put into the list of a claim, and the others are as they were
abbrev pub IsPutIn : Claim → Found → Mark → Found → Type 0
IsPutIn claim.Holds old mark new = IsPut old.holds mark new.holds × (new.generated ≡ old.generated) × (new.preserved ≡ old.preserved)
IsPutIn claim.Generated old mark new = (new.holds ≡ old.holds) × IsPut old.generated mark new.generated × (new.preserved ≡ old.preserved)
IsPutIn claim.Preserved old mark new = (new.holds ≡ old.holds) × (new.generated ≡ old.generated) × IsPut old.preserved mark new.preserved

-- nothing is found at so many points
abbrev pub no_marks : ℕ → MarkList
no_marks points = record { points = points; found = []; taken = 0 }

abbrev pub nothing_found : ℕ → Found
nothing_found points = record { holds = no_marks points; generated = no_marks points; preserved = no_marks points }

-- marks are kept, and more may follow
pub record Extends (old new : MarkList) : Type 0 where
  pub points : new.points ≡ old.points
  pub taken : new.taken ≡ old.taken
  pub longer : length old.found ≤ length new.found
  pub kept : (i : ℕ) → i < length old.found → mark_at new.found i ≡ mark_at old.found i

pub record Grows (old new : Found) : Type 0 where
  pub each : (c : Claim) → Extends (marks_of old c) (marks_of new c)

-- what is left to take up
abbrev pub room_of : MarkList → ℕ
room_of marks = marks.points - marks.taken

abbrev pub room_in : Found → ℕ
room_in found = room_of found.holds + room_of found.generated + room_of found.preserved

-- one more was taken up
abbrev pub one_taken : MarkList → MarkList
one_taken marks = record marks { taken = marks.taken + 1 }

abbrev pub with_taken : Claim → Found → Found
with_taken claim.Holds found = record found { holds = one_taken found.holds }
with_taken claim.Generated found = record found { generated = one_taken found.generated }
with_taken claim.Preserved found = record found { preserved = one_taken found.preserved }

-- the point that is taken up next
pub record IsNext (marks : MarkList) (x : ℕ) : Type 0 where
  pub more : marks.taken < length marks.found
  pub is : point_at marks.found marks.taken ≡ x
  pub within : x < marks.points
  pub room : length marks.found ≤ marks.points

-- all were taken up
abbrev pub AreTaken : MarkList → Type 0
AreTaken marks = marks.taken ≡ length marks.found

-- a claim of a point was taken up
pub record IsTaken (c : Claim) (x : ℕ) (old new : Found) : Type 0 where
  pub is : new ≡ with_taken c old
  pub next : IsNext (marks_of old c) x

-- nothing is left to take up
pub record Ends (old new : Found) : Type 0 where
  pub same : new ≡ old
  pub all : (c : Claim) → AreTaken (marks_of old c)
