-- Frames of searches, and what they find
use Rattle.std.proofs.Common.{◌≡◌, ◌≤◌, ◌↔◌, ℕ, Bool, true, false, List, [], slice_index_or, refl, sym, ap, subst}
use Rattle.flow_graph.specs.Paths.{Shape, Transfer, HasPath, SomePathHas}
use Rattle.flow_graph.specs.Points.{point_count}
use Rattle.flow_links.specs.Shapes.{IsNumbered, LinkedProgram, directed_shape}
use Rattle.summary_equations.specs.Equations.{CallsAt, IsInSolution, Preserved}
use Rattle.summary_equations.proofs.paths.Meet.{solution_is_meet}
use Rattle.flow_graph.specs.Problems.{may_shape}
use Rattle.gen_kill.specs.Selections.{column_transfer}
use Rattle.flow_why.specs.PointBits.{StatementBit, point_transfer}
use Rattle.flow_why.specs.Witnesses.{IsWitness}
use Rattle.flow_why.specs.code.Closed.{IsBegun, IsClosed, IsGround, IsScope, Nowhere, idle_transfer, whole_scope}
use Rattle.flow_why.specs.code.Found.{Found, Has, IsThere, marks_of, nothing_found}
use Rattle.flow_why.specs.code.Frames.{IsAskedOf, IsFrame, is_asked, question_of, scope_of, transfer_for}
use Rattle.flow_why.specs.code.Marked.{AreMarks, BaseHas, Question}
use Rattle.flow_why.specs.code.Moves.{Lead}
use Rattle.flow_why.specs.code.Trails.{AreHops, IsAskedFrame, base_question}
use Rattle.flow_why.specs.code.Visits.{IsComplete}
use Rattle.flow_why.specs.code.Ways.{AreWays, AskedBit, IsAnsweredIn, IsOver, IsSited, KnownWays, bit_question, point_question}
use Rattle.flow_why.specs.declared.claim.Claim.{Claim}
use Rattle.flow_why.specs.declared.claim.Claim.TheVariants as claim
use Rattle.flow_why.specs.declared.frame.Asked.TheVariants.{Paths}
use Rattle.flow_why.specs.declared.frame.Frame.{Frame}
use Rattle.flow_why.proofs.solutions.Complete.{all_found, based_on, ground_of}
use Rattle.flow_why.proofs.trails.Collecting.{nothing_based}
use Rattle.flow_why.proofs.visits.Growing.{has_family}
use Rattle.flow_why.specs.declared.hop.Hop.{Hop}
use Rattle.flow_why.proofs.unfoldings.Moving.{witness_of}
use Rattle.tac_program.specs.Limits.{most_points}
use Rattle.tac_program.specs.declared.limits.Limits.TheVariants.{Large}

pub sited : (linked : LinkedProgram) → point_count linked.program ≤ most_points Large
    → IsNumbered (directed_shape linked) linked.backward (point_count linked.program) → IsSited linked
sited linked few numbered = record { few = few; numbered = numbered }

blank_points : (points : ℕ) (c : Claim) → (marks_of (nothing_found points) c).points ≡ points
blank_points points claim.Holds = refl
blank_points points claim.Generated = refl
blank_points points claim.Preserved = refl

-- where nothing is left out, no procedure is known to keep the bit
none_kept : (frame : Frame) → frame.scope.kept.now ≡ [] → (p : ℕ) → (scope_of frame).kept p ≡ true → ⊥
none_kept frame whole p known = at_none (subst (λ (marks : List Bool). slice_index_or marks p false ≡ true) whole known) where
  at_none : slice_index_or [] p false ≡ true → ⊥
  at_none e = cc e

-- nor is one left out to which the bit is not brought
pub none_skipped : (skipped : List Bool) → skipped ≡ [] → (p : ℕ) → slice_index_or skipped p false ≡ false
none_skipped skipped whole p = ap (λ (marks : List Bool). slice_index_or marks p false) whole

pub goes_everywhere : (shape : Shape) (skipped kept : List Bool) → skipped ≡ []
    → IsScope shape (record { skipped = λ p. slice_index_or skipped p false; kept = λ p. slice_index_or kept p false })
goes_everywhere shape skipped kept whole site x p call into = none_skipped skipped whole (shape.procedure_of x)

-- a frame without a bit
pub bare_frame : (frame : Frame) → frame.asked ≡ Paths → frame.scope.kept.now ≡ [] → IsSited frame.links.now
    → frame.base.now ≡ nothing_found (point_count frame.links.now.program) → IsFrame frame
bare_frame frame none whole is blank =
    let points = point_count frame.links.now.program in record {
      asked = subst (IsAskedOf frame.links.now) (sym none) tt;
      few = is.few;
      numbered = is.numbered;
      base = λ c. subst (λ f. (marks_of f c).points ≡ points) (sym blank) (blank_points points c);
      flags = λ x has. absurd (nothing_based points claim.Holds x (subst (λ f. BaseHas f claim.Holds x) blank has));
      reaches = λ x has. absurd (nothing_based points claim.Generated x (subst (λ f. BaseHas f claim.Generated x) blank has));
      kept = λ p known. absurd (none_kept frame whole p known);
    }

-- the search for where paths lead is right
module _ (linked : LinkedProgram) (is : IsSited linked) (found : Found) (are : AreMarks (base_question linked) found)
    (complete : IsComplete (base_question linked) found) where
  closed : IsClosed (directed_shape linked) idle_transfer whole_scope Nowhere (Has found) (Has found)
  closed = record {
    step = complete.closed.step;
    begin = complete.closed.begin;
    enter = complete.closed.enter;
    keep = complete.closed.keep;
    pass = complete.closed.pass;
    generate = λ c site x p z call return none at. absurd none;
  }

  begun : IsBegun (directed_shape linked) idle_transfer Nowhere (Has found)
  begun = record { boundary = complete.begun.boundary; gens = λ c x y edge gens none. absurd none }

  told_ground : IsGround (directed_shape linked) (based_on (directed_shape linked) is.numbered.formed (Has found) closed begun)
  told_ground = ground_of (directed_shape linked) is.numbered.formed (Has found) closed begun
      (λ x has. has_family (base_question linked) found claim.Holds x are has)
      (λ x has. has_family (base_question linked) found claim.Preserved x are has)

  begins : (c : Claim) (site x p : ℕ) → CallsAt (directed_shape linked) site x p → BaseHas found c x
      → BaseHas found claim.Generated ((directed_shape linked).entry p)
  begins claim.Holds site x p call has = complete.closed.begin claim.Holds site x p call refl has
  begins claim.Generated site x p call has = complete.closed.begin claim.Preserved site x p call refl has
  begins claim.Preserved site x p call has = absurd has

  ground : IsGround (directed_shape linked) (BaseHas found)
  ground = record {
    flags = told_ground.flags;
    reaches = told_ground.reaches;
    none = λ x none. none;
    all_flags = told_ground.all_flags;
    all_reached = told_ground.all_reached;
    begins = begins;
  }

  pub ways_of : AreWays (record { linked = linked; found = found })
  ways_of = record { sited = is; marks = are; ground = ground }

-- what was found of where paths lead is right for edges that are the same
pub ground_in : (ways : KnownWays) (linked : LinkedProgram) (base : Found) → AreWays ways → linked ≡ ways.linked → base ≡ ways.found
    → IsGround (directed_shape linked) (BaseHas base)
ground_in ways linked base are links found =
    subst (λ (l : LinkedProgram). IsGround (directed_shape l) (BaseHas base)) (sym links)
    (subst (λ f. IsGround (directed_shape ways.linked) (BaseHas f)) (sym found) are.ground)

-- a frame with a bit
pub asked_frame : (ways : KnownWays) (frame : Frame) → AreWays ways → frame.links.now ≡ ways.linked → frame.base.now ≡ ways.found
    → IsAskedOf frame.links.now frame.asked → is_asked frame.asked ≡ true
    → ((p : ℕ) → (scope_of frame).kept p ≡ true
    → Preserved (directed_shape frame.links.now) (transfer_for frame).kill ((directed_shape frame.links.now).exit p))
    → IsAskedFrame frame
asked_frame ways frame are links base asked has kept =
    let sited : IsSited frame.links.now = subst IsSited (sym links) are.sited in
    let marks : AreMarks (base_question frame.links.now) frame.base.now =
    subst (λ (l : LinkedProgram). AreMarks (base_question l) frame.base.now) (sym links)
    (subst (AreMarks (base_question ways.linked)) (sym base) are.marks) in
    let ground : IsGround (directed_shape frame.links.now) (BaseHas frame.base.now) = ground_in ways frame.links.now frame.base.now are links base in
    record {
      formed = record {
        asked = asked;
        few = sited.few;
        numbered = sited.numbered;
        base = λ c. (marks.each c).points;
        flags = ground.flags;
        reaches = ground.reaches;
        kept = kept;
      };
      asked = has;
      based = marks;
    }

-- the same where nothing is left out
pub whole_frame : (ways : KnownWays) (frame : Frame) → AreWays ways → frame.links.now ≡ ways.linked → frame.base.now ≡ ways.found
    → IsAskedOf frame.links.now frame.asked → is_asked frame.asked ≡ true → frame.scope.kept.now ≡ [] → IsAskedFrame frame
whole_frame ways frame are links base asked has whole =
    asked_frame ways frame are links base asked has (λ p known. absurd (none_kept frame whole p known))

-- what is said of a question is said of a problem's bit, and of a bit of one's own
pub of_column : (ways : KnownWays) (asked : AskedBit) (question : Question) → question ≡ bit_question ways asked → IsOver ways asked
    → (P : Shape → Transfer → ℕ → Type 0) → P question.shape question.transfer question.points
    → P (may_shape asked.form.program asked.form.analysis) (column_transfer asked.form asked.column) (point_count asked.form.program)
of_column ways asked question same over P holds =
    subst (λ (l : LinkedProgram). P (directed_shape l) (column_transfer asked.form asked.column) (point_count l.program)) over.linked
    (subst (λ (q : Question). P q.shape q.transfer q.points) same holds)

pub of_points : (ways : KnownWays) (bit : StatementBit) (question : Question) → question ≡ point_question ways bit
    → (P : Shape → Transfer → ℕ → Type 0) → P question.shape question.transfer question.points
    → P (directed_shape ways.linked) (point_transfer ways.linked.backward bit) (point_count ways.linked.program)
of_points ways bit question same P holds = subst (λ (q : Question). P q.shape q.transfer q.points) same holds

-- what is found of where paths lead is all
pub leads_there : (ways : KnownWays) → AreWays ways → (x : ℕ) (has : Bool) → (has ≡ true) ↔ Has ways.found claim.Holds x
    → (has ≡ true) ↔ HasPath (directed_shape ways.linked) x
leads_there ways are x has tells =
    let flag = (solution_is_meet (directed_shape ways.linked) idle_transfer x are.sited.numbered.formed).0 in
    (λ yes. flag.0 (are.ground.flags x (tells.0 yes)), λ path. tells.1 (are.ground.all_flags x (flag.1 path)))

-- what is found of a bit is all
module _ (frame : Frame) (found : Found) (is : IsAnsweredIn frame found) where
  pub found_all : (x : ℕ) → IsInSolution (question_of frame).shape (transfer_for frame) x
      → (question_of frame).scope.skipped ((question_of frame).shape.procedure_of x) ≡ false → Has found claim.Holds x
  found_all x member into =
      all_found (question_of frame).shape (transfer_for frame) (question_of frame).scope is.asked.formed.numbered.formed (BaseHas frame.base.now)
      (Has found) is.complete.closed is.complete.begun is.ground is.scope x member into

  -- a point that is not found has no path that has the bit
  pub no_path : (x : ℕ) → (question_of frame).scope.skipped ((question_of frame).shape.procedure_of x) ≡ false → (IsThere found.holds x → ⊥)
      → SomePathHas (question_of frame).shape (transfer_for frame) x → ⊥
  no_path x into never some =
      never (found_all x ((solution_is_meet (question_of frame).shape (transfer_for frame) x is.asked.formed.numbered.formed).1.1 some) into)

  -- one that is found has one
  pub some_path : (x : ℕ) → IsThere found.holds x → SomePathHas (question_of frame).shape (transfer_for frame) x
  some_path x there =
      (solution_is_meet (question_of frame).shape (transfer_for frame) x is.asked.formed.numbered.formed).1.0
      (has_family (question_of frame) found claim.Holds x is.marks there)

  -- hops by which it is found are a witness
  pub witness_here : (x : ℕ) (hops : List Hop) → AreHops (question_of frame) claim.Holds x hops
      → IsWitness (question_of frame).shape (transfer_for frame) x hops
  witness_here x hops are =
      witness_of (question_of frame).shape (transfer_for frame) are.value x hops are.is.1
      (subst (λ start. Lead (question_of frame).shape (transfer_for frame) false start are.value hops x true) are.is.0 are.lead)

-- whether a point is found tells whether it has one
pub tells_path : (frame : Frame) (found : Found) → IsAnsweredIn frame found → (x : ℕ)
    → (question_of frame).scope.skipped ((question_of frame).shape.procedure_of x) ≡ false → (has : Bool) → (has ≡ true) ↔ Has found claim.Holds x
    → (has ≡ true) ↔ SomePathHas (question_of frame).shape (transfer_for frame) x
tells_path frame found is x into has tells =
    let meet = (solution_is_meet (question_of frame).shape (transfer_for frame) x is.asked.formed.numbered.formed).1 in
    (λ yes. some_path frame found is x (tells.0 yes), λ some. tells.1 (found_all frame found is x (meet.1 some) into))
