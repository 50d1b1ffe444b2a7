-- A visit closes what was taken up
use Rattle.std.proofs.Common.{◌≡◌, ◌<◌, ◌≤◌, ◌⊎◌, inl, inr, ℕ, length, arith, refl, sym, ◌∙◌, ap, subst, false}
use Rattle.std.proofs.lemmas.Bool.{cases_eq}
use Rattle.flow_graph.specs.declared.edge.Edge.TheVariants.{Step}
use Rattle.flow_graph.specs.Paths.{IsEdge}
use Rattle.summary_equations.specs.Equations.{CallsAt}
use Rattle.flow_why.specs.code.Closed.{IsBegun, IsClosed}
use Rattle.flow_why.specs.code.Found.{AreTaken, Found, Grows, Has, HasTaken, IsBefore, IsNext, IsTaken, IsTakenUp, IsThere, MarkList, marks_of}
use Rattle.flow_why.specs.code.Found.{nothing_found, one_taken, point_at, room_in, room_of, with_taken}
use Rattle.flow_why.specs.code.Frames.{IsFrame, call_after, question_of, transfer_for}
use Rattle.flow_why.specs.code.Marked.{AreMarks, AreMarksOf, BaseHas, Question}
use Rattle.flow_why.specs.code.Visits.{IsCallVisited, IsComplete, IsVisited}
use Rattle.flow_why.specs.declared.claim.Claim.{Claim}
use Rattle.flow_why.specs.declared.claim.Claim.TheVariants as claim
use Rattle.flow_why.specs.declared.frame.Frame.{Frame}
use Rattle.flow_why.specs.declared.mark.Mark.{Mark}
use Rattle.flow_why.proofs.visits.Growing.{has_on}
use Rattle.flow_why.proofs.visits.Reasons.{after_is}

-- what was taken up is there
pub record AreOrderly (found : Found) : Type 0 where
  pub each : (c : Claim) → (marks_of found c).taken ≤ length (marks_of found c).found

taken_there : (found : Found) → AreOrderly found → (c : Claim) (x : ℕ) → HasTaken found c x → Has found c x
taken_there found orderly c x taken = (taken.0, omega (arith, taken.1, orderly.each c), taken.2)

-- a list of which one more was taken up
module _ (marks : MarkList) (x : ℕ) (next : IsNext marks x) where
  next_there : IsThere marks x
  next_there = (marks.taken, next.more, next.is)

  taken_more : (y : ℕ) → IsTakenUp (one_taken marks) y → IsTakenUp marks y ⊎ (y ≡ x)
  taken_more y taken = elim (cases_eq taken.0 marks.taken) [
    | inl same ↦ inr (sym taken.2 ∙ (ap (point_at marks.found) same ∙ next.is))
    | inr other ↦ inl (taken.0, omega (arith, taken.1), taken.2)
  ]

  next_room : room_of (one_taken marks) < room_of marks
  next_room = omega (arith, next.more, next.room)

module _ (old : Found) where
  -- the lists are as they were, but for what was taken up
  same_lists : (c d : Claim) → (marks_of (with_taken c old) d).found ≡ (marks_of old d).found
  same_lists claim.Holds claim.Holds = refl
  same_lists claim.Holds claim.Generated = refl
  same_lists claim.Holds claim.Preserved = refl
  same_lists claim.Generated claim.Holds = refl
  same_lists claim.Generated claim.Generated = refl
  same_lists claim.Generated claim.Preserved = refl
  same_lists claim.Preserved claim.Holds = refl
  same_lists claim.Preserved claim.Generated = refl
  same_lists claim.Preserved claim.Preserved = refl

  same_points : (c d : Claim) → (marks_of (with_taken c old) d).points ≡ (marks_of old d).points
  same_points claim.Holds claim.Holds = refl
  same_points claim.Holds claim.Generated = refl
  same_points claim.Holds claim.Preserved = refl
  same_points claim.Generated claim.Holds = refl
  same_points claim.Generated claim.Generated = refl
  same_points claim.Generated claim.Preserved = refl
  same_points claim.Preserved claim.Holds = refl
  same_points claim.Preserved claim.Generated = refl
  same_points claim.Preserved claim.Preserved = refl

  module _ (x : ℕ) where
    pub seen_more : (c : Claim) → IsNext (marks_of old c) x → (d : Claim) (y : ℕ) → HasTaken (with_taken c old) d y
        → HasTaken old d y ⊎ ((d ≡ c) × (y ≡ x))
    seen_more claim.Holds next claim.Holds y taken = elim (taken_more old.holds x next y taken) [
      | inl before ↦ inl before
      | inr here ↦ inr
          (refl, here)
    ]
    seen_more claim.Holds next claim.Generated y taken = inl taken
    seen_more claim.Holds next claim.Preserved y taken = inl taken
    seen_more claim.Generated next claim.Holds y taken = inl taken
    seen_more claim.Generated next claim.Generated y taken =
        elim (taken_more old.generated x next y taken) [ inl before ↦ inl before | inr here ↦ inr (refl, here) ]
    seen_more claim.Generated next claim.Preserved y taken = inl taken
    seen_more claim.Preserved next claim.Holds y taken = inl taken
    seen_more claim.Preserved next claim.Generated y taken = inl taken
    seen_more claim.Preserved next claim.Preserved y taken =
        elim (taken_more old.preserved x next y taken) [ inl before ↦ inl before | inr here ↦ inr (refl, here) ]

    orderly_more : (c : Claim) → IsNext (marks_of old c) x → AreOrderly old → (d : Claim)
        → (marks_of (with_taken c old) d).taken ≤ length (marks_of (with_taken c old) d).found
    orderly_more claim.Holds next orderly claim.Holds = omega (arith, next.more)
    orderly_more claim.Holds next orderly claim.Generated = orderly.each claim.Generated
    orderly_more claim.Holds next orderly claim.Preserved = orderly.each claim.Preserved
    orderly_more claim.Generated next orderly claim.Holds = orderly.each claim.Holds
    orderly_more claim.Generated next orderly claim.Generated = omega (arith, next.more)
    orderly_more claim.Generated next orderly claim.Preserved = orderly.each claim.Preserved
    orderly_more claim.Preserved next orderly claim.Holds = orderly.each claim.Holds
    orderly_more claim.Preserved next orderly claim.Generated = orderly.each claim.Generated
    orderly_more claim.Preserved next orderly claim.Preserved = omega (arith, next.more)

    room_less : (c : Claim) → IsNext (marks_of old c) x → room_in (with_taken c old) < room_in old
    room_less claim.Holds next = let less = next_room old.holds x next in omega (arith, less)
    room_less claim.Generated next = let less = next_room old.generated x next in omega (arith, less)
    room_less claim.Preserved next = let less = next_room old.preserved x next in omega (arith, less)

  -- marks are right whatever was taken up
  pub taken_marks : (question : Question) (c : Claim) → AreMarks question old → AreMarks question (with_taken c old)
  taken_marks question c are = record { each = taken_each question c are }
    where
      as_before : (question : Question) (d : Claim) (marks : MarkList) → AreMarksOf question d marks → AreMarksOf question d (one_taken marks)
      as_before question d marks is = record { points = is.points; sound = is.sound; reasons = is.reasons }

      taken_each : (question : Question) (c : Claim) → AreMarks question old → (d : Claim) → AreMarksOf question d (marks_of (with_taken c old) d)
      taken_each question claim.Holds are claim.Holds = as_before question claim.Holds old.holds (are.each claim.Holds)
      taken_each question claim.Holds are claim.Generated = are.each claim.Generated
      taken_each question claim.Holds are claim.Preserved = are.each claim.Preserved
      taken_each question claim.Generated are claim.Holds = are.each claim.Holds
      taken_each question claim.Generated are claim.Generated = as_before question claim.Generated old.generated (are.each claim.Generated)
      taken_each question claim.Generated are claim.Preserved = are.each claim.Preserved
      taken_each question claim.Preserved are claim.Holds = are.each claim.Holds
      taken_each question claim.Preserved are claim.Generated = are.each claim.Generated
      taken_each question claim.Preserved are claim.Preserved = as_before question claim.Preserved old.preserved (are.each claim.Preserved)

-- what was taken up before a visit that grows the lists, and what there was
module _ (mid new : Found) (orderly : AreOrderly mid) (grows : Grows mid new) where
  taken_back : (d : Claim) (y : ℕ) → HasTaken new d y → HasTaken mid d y
  taken_back d y taken =
      let extends = grows.each d in
      let low : taken.0 < (marks_of mid d).taken = omega (arith, taken.1, extends.taken) in
      (taken.0, low, sym (ap (λ (m : Mark). m.point) (extends.kept taken.0 (omega (arith, low, orderly.each d)))) ∙ taken.2)

  pub orderly_on : AreOrderly new
  orderly_on = record { each = λ d. let extends = grows.each d in omega (arith, extends.taken, extends.longer, orderly.each d) }

module _ (frame : Frame) (is : IsFrame frame) (old mid new : Found) (c : Claim) (x : ℕ) (orderly : AreOrderly old) (taken : IsTaken c x old mid)
    (grows : Grows mid new) (visited : IsVisited (question_of frame) c x mid new) where
  mid_orderly : AreOrderly mid
  mid_orderly = subst AreOrderly (sym taken.is) (record { each = orderly_more old x c taken.next orderly })

  pub new_orderly : AreOrderly new
  new_orderly = orderly_on mid new mid_orderly grows

  seen : (d : Claim) (y : ℕ) → HasTaken new d y → HasTaken old d y ⊎ ((d ≡ c) × (y ≡ x))
  seen d y at = seen_more old x c taken.next d y (subst (λ f. HasTaken f d y) taken.is (taken_back mid new mid_orderly grows d y at))

  in_mid : (d : Claim) (y : ℕ) → HasTaken new d y → Has mid d y
  in_mid d y at = taken_there mid mid_orderly d y (taken_back mid new mid_orderly grows d y at)

  from_old : (d : Claim) (y : ℕ) → Has old d y → Has new d y
  from_old d y has = has_on mid new d y grows (subst (λ f. Has f d y) (sym taken.is) (as_listed d y has))
    where
      as_listed : (d : Claim) (y : ℕ) → Has old d y → Has (with_taken c old) d y
      as_listed d y has = subst (λ l. IsBefore l (length l) y) (sym (same_lists old c d)) has

  -- a call of a visited point
  call_of : (d : Claim) (site y p : ℕ) → (d ≡ c) × (y ≡ x) → CallsAt (question_of frame).shape site y p → IsCallVisited
      (question_of frame) c x p mid new
  call_of d site y p here call = visited.calls site p (subst (λ z. CallsAt (question_of frame).shape site z p) here.1 call)

  pub closed_more : IsClosed (question_of frame).shape (transfer_for frame) (question_of frame).scope (BaseHas frame.base.now) (HasTaken old) (Has old)
      → IsClosed (question_of frame).shape (transfer_for frame) (question_of frame).scope (BaseHas frame.base.now) (HasTaken new) (Has new)
  closed_more closed = record {
    step = λ d y z edge unkilled at. elim (seen d y at) [
      | inl before ↦ from_old d z (closed.step d y z edge unkilled before)
      | inr here ↦ subst (λ e. Has new e z) (sym here.0)
          (visited.steps z (subst (λ s. IsEdge (question_of frame).shape (Step s z)) here.1 edge)
          (subst (λ s. (transfer_for frame).kill s z ≡ false) here.1 unkilled))
    ];
    begin = λ d site y p call unkept at. elim (seen d y at) [
      | inl before ↦ from_old claim.Preserved ((question_of frame).shape.entry p) (closed.begin d site y p call unkept before)
      | inr here ↦ (call_of d site y p here call).begin unkept
    ];
    enter = λ site y p call into at. elim (seen claim.Holds y at) [
      | inl before ↦ from_old claim.Holds ((question_of frame).shape.entry p) (closed.enter site y p call into before)
      | inr here ↦ (call_of claim.Holds site y p here call).enter (sym here.0) into
    ];
    keep = λ d site y p z call return kept at. elim (seen d y at) [
      | inl before ↦ from_old d z (closed.keep d site y p z call return kept before)
      | inr here ↦ subst (Has new d) (sym (after_is frame is site y p z call return))
          (subst (λ s. Has new d (call_after frame.links.now.backward s)) (sym here.1)
          (subst (λ e. Has new e (call_after frame.links.now.backward x)) (sym here.0) ((call_of d site y p here call).keep kept)))
    ];
    pass = λ d site y p z call return at through. elim (seen d y at) [
      | inr here ↦ subst (Has new d) (sym (after_is frame is site y p z call return))
          (subst (λ s. Has new d (call_after frame.links.now.backward s)) (sym here.1)
          (subst (λ e. Has new e (call_after frame.links.now.backward x)) (sym here.0)
          ((call_of d site y p here call).pass (in_mid claim.Preserved ((question_of frame).shape.exit p) through))))
      | inl before ↦ elim (seen claim.Preserved ((question_of frame).shape.exit p) through) [
        | inl known ↦ from_old d z (closed.pass d site y p z call return before known)
        | inr here ↦ subst (Has new d) (sym (after_is frame is site y p z call return))
            ((visited.callers site y p call (sym here.1)).wake (sym here.0) d (in_mid d y at))
      ]
    ];
    generate = λ d site y p z call return based through. elim (seen claim.Generated ((question_of frame).shape.exit p) through) [
      | inl known ↦ from_old d z (closed.generate d site y p z call return based known)
      | inr here ↦ subst (Has new d) (sym (after_is frame is site y p z call return))
          ((visited.callers site y p call (sym here.1)).generate (sym here.0) d based)
    ];
  }

  pub begun_more : IsBegun (question_of frame).shape (transfer_for frame) (BaseHas frame.base.now) (Has old)
      → IsBegun (question_of frame).shape (transfer_for frame) (BaseHas frame.base.now) (Has new)
  begun_more begun = record {
    boundary = λ has. from_old claim.Holds _ (begun.boundary has);
    gens = λ d y z edge gens based. from_old d z (begun.gens d y z edge gens based);
  }

-- a point that was taken up is there, and the marks are right as before
pub taken_has : (old mid : Found) (c : Claim) (x : ℕ) → IsTaken c x old mid → Has mid c x
taken_has old mid c x taken =
    subst (λ f. Has f c x) (sym taken.is)
    (subst (λ l. IsBefore l (length l) x) (sym (same_lists old c c)) (next_there (marks_of old c) x taken.next))

pub taken_are : (question : Question) (old mid : Found) (c : Claim) (x : ℕ) → IsTaken c x old mid → AreMarks question old → AreMarks question mid
taken_are question old mid c x taken are = subst (AreMarks question) (sym taken.is) (taken_marks old question c are)

-- where nothing was taken up yet, all is closed and in order
module _ (points : ℕ) (old new : Found) (blank : old ≡ nothing_found points) (grows : Grows old new) where
  none_taken : (c : Claim) → (marks_of new c).taken ≡ 0
  none_taken c = (grows.each c).taken ∙ (ap (λ f. (marks_of f c).taken) blank ∙ at_blank c)
    where
      at_blank : (c : Claim) → (marks_of (nothing_found points) c).taken ≡ 0
      at_blank claim.Holds = refl
      at_blank claim.Generated = refl
      at_blank claim.Preserved = refl

  never : (c : Claim) (x : ℕ) → HasTaken new c x → ⊥
  never c x taken = let none = none_taken c in absurd (omega (arith, taken.1, none))

  pub blank_orderly : AreOrderly new
  blank_orderly = record { each = λ c. let none = none_taken c in omega (arith, none) }

  pub blank_closed : (frame : Frame)
      → IsClosed (question_of frame).shape (transfer_for frame) (question_of frame).scope (BaseHas frame.base.now) (HasTaken new) (Has new)
  blank_closed frame = record {
    step = λ d y z edge unkilled at. absurd (never d y at);
    begin = λ d site y p call unkept at. absurd (never d y at);
    enter = λ site y p call into at. absurd (never claim.Holds y at);
    keep = λ d site y p z call return kept at. absurd (never d y at);
    pass = λ d site y p z call return at through. absurd (never d y at);
    generate = λ d site y p z call return based through. absurd (never claim.Generated _ through);
  }

-- what is left to take up falls
pub visit_falls : (old mid new : Found) (c : Claim) (x : ℕ) → IsTaken c x old mid → Grows mid new → room_in new < room_in old
visit_falls old mid new c x taken grows =
    let less : room_in mid < room_in old = subst (λ f. room_in f < room_in old) (sym taken.is) (room_less old x c taken.next) in
    let holds = grows.each claim.Holds in
    let generated = grows.each claim.Generated in
    let preserved = grows.each claim.Preserved in
    let same : room_in new ≡ room_in mid =
    omega (arith, holds.points, holds.taken, generated.points, generated.taken, preserved.points, preserved.taken) in
    omega (arith, less, same)

-- where nothing is left, all that was found was taken up
pub complete_of : (frame : Frame) (found : Found) → ((c : Claim) → AreTaken (marks_of found c))
    → IsClosed (question_of frame).shape (transfer_for frame) (question_of frame).scope (BaseHas frame.base.now) (HasTaken found) (Has found)
    → IsBegun (question_of frame).shape (transfer_for frame) (BaseHas frame.base.now) (Has found) → IsComplete (question_of frame) found
complete_of frame found all closed begun = record {
  closed = record {
    step = λ d y z edge unkilled at. closed.step d y z edge unkilled (taken d y at);
    begin = λ d site y p call unkept at. closed.begin d site y p call unkept (taken d y at);
    enter = λ site y p call into at. closed.enter site y p call into (taken claim.Holds y at);
    keep = λ d site y p z call return kept at. closed.keep d site y p z call return kept (taken d y at);
    pass = λ d site y p z call return at through. closed.pass d site y p z call return (taken d y at) (taken claim.Preserved _ through);
    generate = λ d site y p z call return based through. closed.generate d site y p z call return based (taken claim.Generated _ through);
  };
  begun = begun;
}
  where
    taken : (d : Claim) (y : ℕ) → Has found d y → HasTaken found d y
    taken d y has = (has.0, omega (arith, has.1, all d), has.2)
