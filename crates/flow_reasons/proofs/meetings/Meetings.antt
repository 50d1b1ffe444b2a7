-- What a search finds of a bit that a statement generates, in the program's own terms
use Rattle.std.proofs.Common.{◌≡◌, ◌<◌, ◌↔◌, ◌||◌, ℕ, Bool, true, false, List, [], nat_eq, refl, sym, subst}
use Rattle.tac_program.specs.Programs.{Program}
use Rattle.tac_program.specs.Sound.{IsSound}
use Rattle.flow_graph.specs.Analyses.{shape_of}
use Rattle.flow_graph.specs.Paths.{Shape, IsEdge, SomePathHas, SomeBackwardPathHas}
use Rattle.flow_graph.specs.Points.{point_count}
use Rattle.flow_graph.specs.WellFormed.{AgreesOnSteps, HasSameEdges}
use Rattle.flow_graph.specs.declared.edge.Edge.TheVariants.{Step}
use Rattle.flow_graph.proofs.edges.EdgeLemmas.{edges_are, source_is}
use Rattle.flow_graph.proofs.edges.SameEdges.{same_edges_same_backward_paths, same_edges_same_paths}
use Rattle.flow_graph.proofs.paths.Reversal.{meets_reverse}
use Rattle.flow_links.specs.Shapes.{LinkedProgram, directed_shape}
use Rattle.flow_why.specs.PointBits.{StatementBit, point_transfer}
use Rattle.flow_reasons.specs.Meetings.{meeting, passing}
use Rattle.flow_reasons.specs.code.Marks.{AreMarks, Meets, meeting_bit}

pub same_edges : (shape : Shape) → HasSameEdges shape shape
same_edges shape = record { same_root = refl; same_final = refl; same_edges = λ edge. (λ at. at, λ at. at) }

or_none : (b : Bool) → b || false ≡ b
or_none true = refl
or_none false = refl

-- a search over the program's ways is for the program's own meet
pub linked_forward : (program : Program) (linked : LinkedProgram) (bit : StatementBit) (at : ℕ)
    → linked ≡ record { program = program; backward = false }
    → SomePathHas (directed_shape linked) (point_transfer linked.backward bit) at ↔ SomePathHas (shape_of program) (point_transfer false bit) at
linked_forward program linked bit at is =
    subst (λ (l : LinkedProgram). SomePathHas (directed_shape l) (point_transfer l.backward bit) at
    ↔ SomePathHas (shape_of program) (point_transfer false bit) at)
    (sym is) (λ has. has, λ has. has)

pub linked_backward : (program : Program) (linked : LinkedProgram) (bit : StatementBit) (at : ℕ)
    → linked ≡ record { program = program; backward = true }
    → SomePathHas (directed_shape linked) (point_transfer linked.backward bit) at
    ↔ SomeBackwardPathHas (shape_of program) (point_transfer false bit) at
linked_backward program linked bit at is =
    let (forth, back) = (meets_reverse (shape_of program) (point_transfer false bit) at).1 in
    subst (λ (l : LinkedProgram). SomePathHas (directed_shape l) (point_transfer l.backward bit) at
    ↔ SomeBackwardPathHas (shape_of program) (point_transfer false bit) at)
    (sym is) (back, forth)

pub step_low : (program : Program) → IsSound program → (x y : ℕ) → IsEdge (shape_of program) (Step x y) → x < point_count program
step_low program sound x y edge =
    let (point, below, at, is) = edges_are program sound (Step x y) edge in
    subst (λ n. n < point_count program) (sym (source_is program point (Step x y) is)) below

module _ (program : Program) (sound : IsSound program) (stops : ℕ → Bool) (marks : List Bool) (are : AreMarks (point_count program) stops marks) where
  meeting_agrees : (q : ℕ) → AgreesOnSteps (shape_of program) (point_transfer false (meeting_bit marks q)) (meeting stops q)
  meeting_agrees q = record {
    same_gen = λ x y edge. or_none (nat_eq x q);
    same_kill = λ x y edge. are.each x (step_low program sound x y edge);
    same_boundary = refl;
  }

  passing_agrees : AgreesOnSteps (shape_of program) (point_transfer false (record { gens = []; kills = marks; boundary = true })) (passing stops)
  passing_agrees = record {
    same_gen = λ x y edge. refl;
    same_kill = λ x y edge. are.each x (step_low program sound x y edge);
    same_boundary = refl;
  }

  -- a statement that is met on the ways to a point
  pub met_forward : (linked : LinkedProgram) (at q : ℕ) → linked ≡ record { program = program; backward = false }
      → Meets linked marks at q ↔ SomePathHas (shape_of program) (meeting stops q) at
  met_forward linked at q is =
      let (forth, back) = linked_forward program linked (meeting_bit marks q) at is in
      let same = (same_edges_same_paths (shape_of program) (shape_of program) (point_transfer false (meeting_bit marks q)) (meeting stops q) at
      (same_edges (shape_of program)) (meeting_agrees q)).1 in
      (λ has. same.0 (forth has), λ has. back (same.1 has))

  -- one that is met on the ways from a point on
  pub met_backward : (linked : LinkedProgram) (at q : ℕ) → linked ≡ record { program = program; backward = true }
      → Meets linked marks at q ↔ SomeBackwardPathHas (shape_of program) (meeting stops q) at
  met_backward linked at q is =
      let (forth, back) = linked_backward program linked (meeting_bit marks q) at is in
      let same = (same_edges_same_backward_paths (shape_of program) (shape_of program) (point_transfer false (meeting_bit marks q))
      (meeting stops q) at
      (same_edges (shape_of program)) (meeting_agrees q)).1 in
      (λ has. same.0 (forth has), λ has. back (same.1 has))

  -- a way from a point on with none that is marked
  pub passed_backward : (linked : LinkedProgram) (at : ℕ) → linked ≡ record { program = program; backward = true }
      → SomePathHas (directed_shape linked) (point_transfer linked.backward (record { gens = []; kills = marks; boundary = true })) at
      ↔ SomeBackwardPathHas (shape_of program) (passing stops) at
  passed_backward linked at is =
      let bit : StatementBit = record { gens = []; kills = marks; boundary = true } in
      let (forth, back) = linked_backward program linked bit at is in
      let same = (same_edges_same_backward_paths (shape_of program) (shape_of program) (point_transfer false bit) (passing stops) at
      (same_edges (shape_of program)) passing_agrees).1 in
      (λ has. same.0 (forth has), λ has. back (same.1 has))
