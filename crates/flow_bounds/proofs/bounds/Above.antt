-- Words that are closed under a frame's clauses bound a bit from above
use Rattle.std.proofs.Common.{◌≡◌, ◌<◌, ℕ, Bool, true, false, not, ◌&&◌, ◌||◌, List, [], refl, sym, ap, subst}
use Rattle.std.proofs.lemmas.Bool.{or_left, or_right}
use Rattle.flow_graph.specs.Paths.{Shape, Transfer}
use Rattle.flow_links.specs.Shapes.{after_site}
use Rattle.solution_bounds.specs.Quotients.{Quotient, brought_by, IsBroughtBound, IsGeneratedBound, IsPreservedBound}
use Rattle.solution_bounds.specs.Quotients.{LeadsInside}
use Rattle.solution_bounds.proofs.quotients.Quotients.{choose, chosen_first, chosen_second, quotients_bound_points}
use Rattle.summary_equations.specs.Equations.{CallsAt, Entered, IsInSolution, Reached, ReturnsTo}
use Rattle.summary_equations.specs.Laws.{Passes}
use Rattle.flow_bounds.specs.Bounds.{IsAbove, is_in_words, quotient_of}
use Rattle.flow_bounds.specs.Clauses.{Clause, IsPointInside, always_cell, is_inside, leads_back}
use Rattle.flow_bounds.specs.Clauses.{shape_in, cell_count}
use Rattle.flow_bounds.specs.Clauses.{of_step, of_inner, of_outer, of_procedure, of_root, preserved_by_step, generated_before_step, generated_by_step}
use Rattle.flow_bounds.specs.Clauses.{preserved_by_call, generated_before_call, generated_by_callee, brought_where_generated, brought_where_preserved}
use Rattle.flow_bounds.specs.Clauses.{preserved_past, generated_past, generated_outside, brought_outside_where_generated, brought_outside_where_preserved}
use Rattle.flow_bounds.specs.Clauses.{preserved_at_entry, handed_out, brought_from_outside, brought_by_boundary, brought_outside_by_boundary}
use Rattle.flow_bounds.specs.Clauses.{brought_outside_where_handed_out}
use Rattle.flow_bounds.specs.Rules.{AreClosed, HasBit}
use Rattle.flow_bounds.specs.code.Frames.{Adds, Gives, IsFrame}
use Rattle.flow_bounds.specs.declared.frame.Frame.{Frame}
use Rattle.flow_bounds.specs.declared.rule.Rule.{Rule}

-- by the value of a test
by_test : (A : Type 0) (b : Bool) → (b ≡ true → A) → (b ≡ false → A) → A
by_test A true one other = one refl
by_test A false one other = other refl

both_true : (a b : Bool) → (a && b) ≡ true → (a ≡ true) × (b ≡ true)
both_true true b is = (refl, is)
both_true false b is = absurd (cc is)

module _ (frame : Frame) (transfer : Transfer) (bit : ℕ) (small : bit < 64) (rules : List Rule) (words : List ℕ) (is_frame : IsFrame frame)
    (tells : Adds (cell_count frame) (Clause frame) [] rules) (closed : AreClosed rules words) (always : HasBit words (always_cell frame) bit)
    (above : IsAbove frame transfer bit) where
  abbrev shape : Shape
  shape = shape_in frame

  abbrev quotient : Quotient
  quotient = quotient_of frame words bit

  -- a clause holds of the words
  by_clause : (to first second : ℕ) → Clause frame bit to first second → HasBit words first bit → HasBit words second bit → HasBit words to bit
  by_clause to first second clause one other =
      let gives : Gives rules bit to first second = tells.has bit to first second small clause in
      subst (λ n. HasBit words n bit) gives.to_is
      (closed gives.number gives.rule gives.there bit (subst (λ n. HasBit words n bit) (sym gives.first_is) one)
      (subst (λ n. HasBit words n bit) (sym gives.second_is) other) gives.lets)

  -- each call returns somewhere
  returns : (site x p : ℕ) → CallsAt shape site x p → ReturnsTo shape site p (after_site frame.links.now.backward site)
  returns site x p call =
      let one = is_frame.numbered.one_return site x (shape.entry p) (after_site frame.links.now.backward site) call.1 in
      subst (λ q. ReturnsTo shape site q (after_site frame.links.now.backward site)) (is_frame.numbered.formed.entry_inside p call.0) (one.1 refl)

  leads : LeadsInside shape quotient
  leads = record {
    to_inside = λ site x p call inside. above.leads site x p call (or_left (is_inside frame p) (leads_back frame p) inside);
    by_callee = λ site x p call back. above.leads site x p call (or_right (is_inside frame p) (leads_back frame p) back);
  }

  module _ (reached entered : ℕ → Type 0) where
    preserved : IsPreservedBound shape transfer.kill reached quotient
    preserved = record {
      entry = λ p there inside. by_clause _ _ _ (of_procedure p there inside preserved_at_entry) always always;
      step = λ x y edge inside at_x before unkilled.
          by_clause _ _ _ (of_step x y edge inside (above.taken x (is_frame.numbered.edge_in_range _ edge).0 inside) (preserved_by_step (above.kills x y edge inside unkilled))) before always;
      call = λ site x p z call return inside at_x at_exit before through.
          by_test _ (is_inside frame p)
          (λ inner. by_clause _ _ _ (of_inner site x p z call return inside (above.taken x (is_frame.numbered.edge_in_range _ call.1).0 inside) inner preserved_by_call) before
          (chosen_first (is_inside frame p) (quotient.preserved (shape.exit p)) true inner through))
          (λ outer. by_clause _ _ _ (of_outer site x p z call return inside (above.taken x (is_frame.numbered.edge_in_range _ call.1).0 inside) outer (preserved_past (above.through p call.0))) before
          always);
    }

    generated : IsGeneratedBound shape transfer reached quotient
    generated = record {
      by_step = λ x y edge inside at_x gens.
          by_clause _ _ _ (of_step x y edge inside (above.taken x (is_frame.numbered.edge_in_range _ edge).0 inside) (generated_by_step (above.gens x y edge inside gens))) always always;
      before_step = λ x y edge inside at_x has unkilled.
          by_clause _ _ _ (of_step x y edge inside (above.taken x (is_frame.numbered.edge_in_range _ edge).0 inside) (generated_before_step (above.kills x y edge inside unkilled))) has always;
      by_callee = λ site x p z call return inside at_x at_exit through.
          by_test _ (is_inside frame p)
          (λ inner. by_clause _ _ _ (of_inner site x p z call return inside (above.taken x (is_frame.numbered.edge_in_range _ call.1).0 inside) inner generated_by_callee)
          (chosen_first (is_inside frame p) (quotient.generated (shape.exit p)) (quotient.outside_generates && leads_back frame p) inner through) always)
          (λ outer.
          let two = both_true quotient.outside_generates (leads_back frame p)
          (chosen_second (is_inside frame p) (quotient.generated (shape.exit p)) (quotient.outside_generates && leads_back frame p) outer through) in
          by_clause _ _ _ (of_outer site x p z call return inside (above.taken x (is_frame.numbered.edge_in_range _ call.1).0 inside) outer (generated_outside two.1)) two.0 always);
      before_call = λ site x p z call return inside at_x at_exit has through.
          by_test _ (is_inside frame p)
          (λ inner. by_clause _ _ _ (of_inner site x p z call return inside (above.taken x (is_frame.numbered.edge_in_range _ call.1).0 inside) inner generated_before_call) has
          (chosen_first (is_inside frame p) (quotient.preserved (shape.exit p)) true inner through))
          (λ outer. by_clause _ _ _ (of_outer site x p z call return inside (above.taken x (is_frame.numbered.edge_in_range _ call.1).0 inside) outer (generated_past (above.through p call.0))) has
          always);
      step_outside = above.outside;
      call_from_outside = λ site x p z call return outer inner at_x at_exit has.
          by_clause _ _ _ (of_procedure p call.0 inner (handed_out (above.called site x p call outer inner))) has always;
    }

    -- what is brought to a callee
    brought_if : (p : ℕ) → (is_inside frame p ≡ true → quotient.brought p ≡ true)
        → (is_inside frame p ≡ false → leads_back frame p ≡ true → quotient.outside_brought ≡ true) → Passes (brought_by quotient) p
    brought_if p inner outer =
        choose (is_inside frame p) (quotient.brought p) (not (leads_back frame p) || quotient.outside_brought) inner
        (λ is. by_test _ (leads_back frame p)
        (λ back. or_right (not (leads_back frame p)) quotient.outside_brought (outer is back))
        (λ never. or_left (not (leads_back frame p)) quotient.outside_brought (ap not never)))

    brought : IsBroughtBound shape transfer reached entered quotient
    brought = record {
      boundary = λ begins. brought_if shape.root_procedure
          (λ inner. by_clause _ _ _ (of_root (brought_by_boundary (above.boundary begins) inner)) always always)
          (λ outer back. by_clause _ _ _ (of_root (brought_outside_by_boundary (above.boundary begins) above.joined)) always always);
      where_generated = λ site x p call inside at_entry at_x has. brought_if p
          (λ inner. by_clause _ _ _
          (of_inner site x p _ call (returns site x p call) inside (above.taken x (is_frame.numbered.edge_in_range _ call.1).0 inside) inner brought_where_generated) has always)
          (λ outer back. by_clause _ _ _
          (of_outer site x p _ call (returns site x p call) inside (above.taken x (is_frame.numbered.edge_in_range _ call.1).0 inside) outer (brought_outside_where_generated back)) has always);
      where_preserved = λ site x p call inside at_entry at_x has kept. brought_if p
          (λ inner. by_clause _ _ _
          (of_inner site x p _ call (returns site x p call) inside (above.taken x (is_frame.numbered.edge_in_range _ call.1).0 inside) inner brought_where_preserved) has kept)
          (λ outer back. by_clause _ _ _
          (of_outer site x p _ call (returns site x p call) inside (above.taken x (is_frame.numbered.edge_in_range _ call.1).0 inside) outer (brought_outside_where_preserved back)) has kept);
      outside = λ has. by_clause _ _ _ (of_root (brought_outside_where_handed_out above.joined)) has always;
      call_from_outside = λ site x p call outer inner at_entry at_x has.
          by_clause _ _ _ (of_procedure p call.0 inner (brought_from_outside (above.called site x p call outer inner))) has always;
    }

  -- a bit of the solution at a point inside is in the words
  pub words_are_above : (x : ℕ) → IsPointInside frame x → IsInSolution shape transfer x → is_in_words frame words x bit ≡ true
  words_are_above x inside in_solution =
      quotients_bound_points shape transfer quotient x is_frame.numbered.formed
      (record {
        leads = leads;
        preserved = preserved (Reached shape) (Entered shape);
        generated = generated (Reached shape) (Entered shape);
        brought = brought (Reached shape) (Entered shape);
      })
      inside in_solution
