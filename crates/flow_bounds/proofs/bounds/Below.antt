-- What follows by a frame's clauses bounds a bit from below
use Rattle.std.proofs.Common.{◌≡◌, ◌<◌, ℕ, Bool, true, false, ◌&&◌, List, [], length, slice_index, inl, inr, refl, sym, ap, subst, ◌∙◌, arith}
use Rattle.std.proofs.lemmas.Bool.{or_cases}
use Rattle.bit_rows.specs.Words.{has_bit}
use Rattle.flow_graph.specs.declared.edge.Edge.TheVariants.{Step}
use Rattle.flow_graph.specs.Paths.{IsEdge, Shape, Transfer}
use Rattle.flow_graph.specs.Points.{point_count}
use Rattle.summary_equations.specs.Equations.{Brought, CallsAt, Generated, HasFlag, IsInSolution, Preserved, Reached, ReturnsTo}
use Rattle.summary_equations.specs.Equations.{preserved_at_entry as entry_preserves, preserved_by_step as step_preserves, preserved_by_call as call_preserves}
use Rattle.summary_equations.specs.Equations.{generated_by_step as step_generates, generated_before_step as step_carries}
use Rattle.summary_equations.specs.Equations.{generated_by_callee as callee_generates, generated_before_call as call_carries}
use Rattle.summary_equations.specs.Equations.{brought_by_boundary as boundary_brings, brought_where_generated as generated_brings}
use Rattle.summary_equations.specs.Equations.{brought_where_preserved as preserved_brings}
use Rattle.summary_equations.specs.Equations.{entry_is_reached, reached_by_step, reached_by_call}
use Rattle.flow_bounds.specs.Bounds.{IsBelow, is_in_words}
use Rattle.flow_bounds.specs.Clauses.{Clause, InnerClause, IsPointInside, IsTaken, OuterClause, ProcedureClause, RootClause, StepClause, always_cell}
use Rattle.flow_bounds.specs.Clauses.{brought_cell, cell_count, generated_cell, is_inside, leads_back}
use Rattle.flow_bounds.specs.Clauses.{preserved_cell, shape_in}
use Rattle.flow_bounds.specs.Clauses.{of_step, of_inner, of_outer, of_procedure, of_root, preserved_by_step, generated_before_step, generated_by_step}
use Rattle.flow_bounds.specs.Clauses.{preserved_by_call, generated_before_call, generated_by_callee, brought_where_generated, brought_where_preserved}
use Rattle.flow_bounds.specs.Clauses.{preserved_past, generated_past, generated_outside, brought_outside_where_generated, brought_outside_where_preserved}
use Rattle.flow_bounds.specs.Clauses.{preserved_at_entry, brought_by_tree, handed_out, brought_from_outside, brought_by_boundary}
use Rattle.flow_bounds.specs.Clauses.{brought_outside_by_boundary, brought_outside_where_handed_out}
use Rattle.flow_bounds.specs.Rules.{Follows, HasBit, is_given, follows_by}
use Rattle.flow_bounds.specs.code.Frames.{Adds, IsFrame}
use Rattle.flow_bounds.specs.declared.frame.Frame.{Frame}
use Rattle.flow_bounds.specs.declared.rule.Rule.{Rule}

both_true : (a b : Bool) → (a && b) ≡ true → (a ≡ true) × (b ≡ true)
both_true true b is = (refl, is)
both_true false b is = absurd (cc is)

-- what preserves or generates a bit is reached
pub preserved_is_reached : (shape : Shape) (kill : ℕ → ℕ → Bool) (x : ℕ) → Preserved shape kill x → Reached shape x
preserved_is_reached shape kill _ (entry_preserves p there) = entry_is_reached p there
preserved_is_reached shape kill _ (step_preserves x y edge at_x before unkilled) = reached_by_step x y edge at_x
preserved_is_reached shape kill _ (call_preserves site x p z call return at_x at_exit before through) = reached_by_call site x p z call return at_x at_exit

pub generated_is_reached : (shape : Shape) (transfer : Transfer) (x : ℕ) → Generated shape transfer x → Reached shape x
generated_is_reached shape transfer _ (step_generates x y edge at_x gens) = reached_by_step x y edge at_x
generated_is_reached shape transfer _ (step_carries x y edge at_x before unkilled) = reached_by_step x y edge at_x
generated_is_reached shape transfer _ (callee_generates site x p z call return at_x at_exit through) = reached_by_call site x p z call return at_x at_exit
generated_is_reached shape transfer _ (call_carries site x p z call return at_x at_exit before through) = reached_by_call site x p z call return at_x at_exit

module _ (frame : Frame) (transfer : Transfer) (bit : ℕ) (small : bit < 64) (rules : List Rule) (given : List ℕ) (is_frame : IsFrame frame)
    (tells : Adds (cell_count frame) (Clause frame) [] rules)
    (only : (cell : ℕ) → HasBit given cell bit → cell ≡ always_cell frame)
    (below : IsBelow frame transfer bit) where
  abbrev shape : Shape
  shape = shape_in frame

  abbrev points : ℕ
  points = point_count frame.links.now.program

  -- what it says that a cell has the bit
  record Holds (cell : ℕ) : Type 0 where
    preserves : (x : ℕ) → x < points → IsPointInside frame x → preserved_cell frame x ≡ cell → Preserved shape transfer.kill x
    generates : (x : ℕ) → x < points → IsPointInside frame x → generated_cell frame x ≡ cell → Generated shape transfer x
    brings : (p : ℕ) → p < shape.procedures → brought_cell frame p ≡ cell → Brought shape transfer p

  -- cells of different kinds differ
  preserved_low : (x : ℕ) → x < points → IsPointInside frame x → preserved_cell frame x < length frame.points.now
  preserved_low x there inside = (is_frame.placed x there inside).0

  -- a point is the one of its cell
  same_point : (x y : ℕ) → x < points → y < points → IsPointInside frame x → IsPointInside frame y
      → preserved_cell frame x ≡ preserved_cell frame y → x ≡ y
  same_point x y x_there y_there x_inside y_inside same =
      sym (is_frame.placed x x_there x_inside).1 ∙ (ap (slice_index frame.points.now) same ∙ (is_frame.placed y y_there y_inside).1)

  holds_always : Holds (always_cell frame)
  holds_always = record {
    preserves = λ x there inside same. let low = preserved_low x there inside in absurd (omega arith);
    generates = λ x there inside same. let low = preserved_low x there inside in absurd (omega arith);
    brings = λ p there same. let many = is_frame.inside in absurd (omega arith);
  }

  holds_preserved : (y : ℕ) → y < points → IsPointInside frame y → Preserved shape transfer.kill y → Holds (preserved_cell frame y)
  holds_preserved y y_there y_inside is =
      let y_low = preserved_low y y_there y_inside in
      record {
        preserves = λ x there inside same. subst (Preserved shape transfer.kill) (sym (same_point x y there y_there inside y_inside same)) is;
        generates = λ x there inside same. let low = preserved_low x there inside in absurd (omega arith);
        brings = λ p there same. absurd (omega arith);
      }

  holds_generated : (y : ℕ) → y < points → IsPointInside frame y → Generated shape transfer y → Holds (generated_cell frame y)
  holds_generated y y_there y_inside is =
      let y_low = preserved_low y y_there y_inside in
      record {
        preserves = λ x there inside same. let low = preserved_low x there inside in absurd (omega arith);
        generates = λ x there inside same.
            let cells : preserved_cell frame x ≡ preserved_cell frame y = omega arith in
            subst (Generated shape transfer) (sym (same_point x y there y_there inside y_inside cells)) is;
        brings = λ p there same. absurd (omega arith);
      }

  holds_brought : (q : ℕ) → q < shape.procedures → Brought shape transfer q → Holds (brought_cell frame q)
  holds_brought q q_there is =
      let many = is_frame.inside in
      record {
        preserves = λ x there inside same. let low = preserved_low x there inside in absurd (omega arith);
        generates = λ x there inside same. let low = preserved_low x there inside in absurd (omega arith);
        brings = λ p there same. let one : p ≡ q = omega arith in subst (Brought shape transfer) (sym one) is;
      }

  preserved_of : (x : ℕ) → x < points → IsPointInside frame x → Holds (preserved_cell frame x) → Preserved shape transfer.kill x
  preserved_of x there inside holds = holds.preserves x there inside refl

  generated_of : (x : ℕ) → x < points → IsPointInside frame x → Holds (generated_cell frame x) → Generated shape transfer x
  generated_of x there inside holds = holds.generates x there inside refl

  -- points of edges
  source_there : (x y : ℕ) → IsEdge shape (Step x y) → x < points
  source_there x y edge = (is_frame.numbered.edge_in_range (Step x y) edge).0

  target_there : (x y : ℕ) → IsEdge shape (Step x y) → y < points
  target_there x y edge = (is_frame.numbered.edge_in_range (Step x y) edge).1

  target_inside : (x y : ℕ) → IsEdge shape (Step x y) → IsPointInside frame x → IsPointInside frame y
  target_inside x y edge inside = subst (λ p. is_inside frame p ≡ true) (is_frame.numbered.formed.step_inside x y edge) inside

  calls_there : (site x p : ℕ) → CallsAt shape site x p → x < points
  calls_there site x p call = (is_frame.numbered.edge_in_range _ call.1).0

  behind_there : (site p z : ℕ) → ReturnsTo shape site p z → z < points
  behind_there site p z return = (is_frame.numbered.edge_in_range _ return).1

  behind_inside : (site x p z : ℕ) → CallsAt shape site x p → ReturnsTo shape site p z → IsPointInside frame x → IsPointInside frame z
  behind_inside site x p z call return inside =
      subst (λ q. is_inside frame q ≡ true) (is_frame.numbered.formed.site_inside site x (shape.entry p) (shape.exit p) z call.1 return) inside

  exit_inside : (p : ℕ) → p < shape.procedures → is_inside frame p ≡ true → IsPointInside frame (shape.exit p)
  exit_inside p there inside = subst (λ q. is_inside frame q ≡ true) (sym (is_frame.numbered.formed.exit_inside p there)) inside

  entry_inside : (p : ℕ) → p < shape.procedures → is_inside frame p ≡ true → IsPointInside frame (shape.entry p)
  entry_inside p there inside = subst (λ q. is_inside frame q ≡ true) (sym (is_frame.numbered.formed.entry_inside p there)) inside

  step_holds : (x y : ℕ) → IsEdge shape (Step x y) → IsPointInside frame x → IsTaken frame x → (to first second : ℕ)
      → StepClause frame x y bit to first second → Holds first → Holds second → Holds to
  step_holds x y edge inside taken _ _ _ (preserved_by_step un) one other =
      holds_preserved y (target_there x y edge) (target_inside x y edge inside)
      (step_preserves x y edge (below.taken x taken).1 (preserved_of x (source_there x y edge) inside one) (below.kills x y edge inside un))
  step_holds x y edge inside taken _ _ _ (generated_before_step un) one other =
      holds_generated y (target_there x y edge) (target_inside x y edge inside)
      (step_carries x y edge (below.taken x taken).1 (generated_of x (source_there x y edge) inside one) (below.kills x y edge inside un))
  step_holds x y edge inside taken _ _ _ (generated_by_step gens) one other =
      holds_generated y (target_there x y edge) (target_inside x y edge inside)
      (step_generates x y edge (below.taken x taken).1 (below.gens x y edge inside gens))

  module _ (site x p z : ℕ) (call : CallsAt shape site x p) (return : ReturnsTo shape site p z) (inside : IsPointInside frame x)
      (taken : IsTaken frame x) where
    x_there : x < points
    x_there = calls_there site x p call

    z_there : z < points
    z_there = behind_there site p z return

    z_inside : IsPointInside frame z
    z_inside = behind_inside site x p z call return inside

    at_x : Reached shape x
    at_x = (below.taken x taken).1

    at_exit : Preserved shape transfer.kill (shape.exit p) → Reached shape (shape.exit p)
    at_exit is = preserved_is_reached shape transfer.kill (shape.exit p) is

    inner_holds : is_inside frame p ≡ true → (to first second : ℕ) → InnerClause frame x p z bit to first second → Holds first → Holds second → Holds to
    inner_holds inner _ _ _ preserved_by_call one other =
        let through = preserved_of (shape.exit p) (is_frame.numbered.exit_in_range p call.0) (exit_inside p call.0 inner) other in
        holds_preserved z z_there z_inside (call_preserves site x p z call return at_x (at_exit through) (preserved_of x x_there inside one) through)
    inner_holds inner _ _ _ generated_before_call one other =
        let through = preserved_of (shape.exit p) (is_frame.numbered.exit_in_range p call.0) (exit_inside p call.0 inner) other in
        holds_generated z z_there z_inside (call_carries site x p z call return at_x (at_exit through) (generated_of x x_there inside one) through)
    inner_holds inner _ _ _ generated_by_callee one other =
        let through = generated_of (shape.exit p) (is_frame.numbered.exit_in_range p call.0) (exit_inside p call.0 inner) one in
        holds_generated z z_there z_inside
        (callee_generates site x p z call return at_x (generated_is_reached shape transfer (shape.exit p) through) through)
    inner_holds inner _ _ _ brought_where_generated one other =
        holds_brought p call.0 (generated_brings site x p call (below.taken x taken).0 at_x (generated_of x x_there inside one))
    inner_holds inner _ _ _ brought_where_preserved one other =
        holds_brought p call.0
        (preserved_brings site x p call (below.taken x taken).0 at_x
        (one.brings (shape.procedure_of x) (is_frame.numbered.procedure_in_range x x_there) refl) (preserved_of x x_there inside other))

    never : (b : Bool) → b ≡ false → b ≡ true → ⊥
    never b one other = cc (sym one ∙ other)

    outer_holds : (to first second : ℕ) → OuterClause frame x p z bit to first second → Holds first → Holds second → Holds to
    outer_holds _ _ _ (preserved_past lets) one other =
        let through = below.through p call.0 lets in
        holds_preserved z z_there z_inside (call_preserves site x p z call return at_x (at_exit through) (preserved_of x x_there inside one) through)
    outer_holds _ _ _ (generated_past lets) one other =
        let through = below.through p call.0 lets in
        holds_generated z z_there z_inside (call_carries site x p z call return at_x (at_exit through) (generated_of x x_there inside one) through)
    outer_holds _ _ _ (generated_outside back) one other = absurd (never (leads_back frame p) (below.leads p) back)
    outer_holds _ _ _ (brought_outside_where_generated back) one other = absurd (never (leads_back frame p) (below.leads p) back)
    outer_holds _ _ _ (brought_outside_where_preserved back) one other = absurd (never (leads_back frame p) (below.leads p) back)

  procedure_holds : (p : ℕ) → p < shape.procedures → is_inside frame p ≡ true → (to first second : ℕ) → ProcedureClause frame p bit to first second
      → Holds first → Holds second → Holds to
  procedure_holds p there inside _ _ _ preserved_at_entry one other =
      holds_preserved (shape.entry p) (is_frame.numbered.entry_in_range p there) (entry_inside p there inside) (entry_preserves p there)
  procedure_holds p there inside _ _ _ (brought_by_tree hung) one other = holds_brought p there (below.hung p hung).1
  procedure_holds p there inside _ _ _ (handed_out called) one other = absurd (cc (sym (below.called p) ∙ called))
  procedure_holds p there inside _ _ _ (brought_from_outside called) one other = absurd (cc (sym (below.called p) ∙ called))

  root_holds : (to first second : ℕ) → RootClause frame bit to first second → Holds first → Holds second → Holds to
  root_holds _ _ _ (brought_by_boundary has inner) one other =
      holds_brought shape.root_procedure is_frame.numbered.formed.root_in_range (boundary_brings (below.boundary has))
  root_holds _ _ _ (brought_outside_by_boundary has joined) one other = absurd (cc (sym below.joined ∙ joined))
  root_holds _ _ _ (brought_outside_where_handed_out joined) one other = absurd (cc (sym below.joined ∙ joined))

  clause_holds : (to first second : ℕ) → Clause frame bit to first second → Holds first → Holds second → Holds to
  clause_holds to first second (of_step x y edge inside taken clause) one other = step_holds x y edge inside taken to first second clause one other
  clause_holds to first second (of_inner site x p z call return inside taken inner clause) one other =
      inner_holds site x p z call return inside taken inner to first second clause one other
  clause_holds to first second (of_outer site x p z call return inside taken outer clause) one other =
      outer_holds site x p z call return inside taken to first second clause one other
  clause_holds to first second (of_procedure p there inside clause) one other = procedure_holds p there inside to first second clause one other
  clause_holds to first second (of_root clause) one other = root_holds to first second clause one other

  follows_holds : (cell b : ℕ) → b ≡ bit → Follows rules given cell b → Holds cell
  follows_holds cell b same (is_given _ _ has) =
      subst Holds (sym (only cell (subst (λ k. HasBit given cell k) same has))) holds_always
  follows_holds _ b same (follows_by i rule _ there one other lets) = elim (tells.only i rule there) [
    | inl was ↦ absurd (cc was)
    | inr of ↦ clause_holds rule.to rule.first rule.second
        (of.clauses bit small (subst (λ k. has_bit rule.mask k ≡ true) same lets))
        (follows_holds rule.first b same one) (follows_holds rule.second b same other)
  ]

  -- a bit of the words at a point inside to which a valid path leads is in the solution
  pub words_are_below : (words : List ℕ) → ((cell : ℕ) → HasBit words cell bit → Follows rules given cell bit)
      → (x : ℕ) → x < points → IsPointInside frame x → HasFlag shape x → is_in_words frame words x bit ≡ true → IsInSolution shape transfer x
  words_are_below words follows x there inside flag has = (
    flag,
    elim (or_cases _ _ has) [
      | inl made ↦ inl (generated_of x there inside (follows_holds (generated_cell frame x) bit refl (follows (generated_cell frame x) made)))
      | inr two ↦
          let parts = both_true _ _ two in
          inr (
            (follows_holds (brought_cell frame (shape.procedure_of x)) bit refl (follows (brought_cell frame (shape.procedure_of x)) parts.0)).brings
                (shape.procedure_of x) (is_frame.numbered.procedure_in_range x there) refl,
            preserved_of x there inside (follows_holds (preserved_cell frame x) bit refl (follows (preserved_cell frame x) parts.1)),
          )
    ],
  )
