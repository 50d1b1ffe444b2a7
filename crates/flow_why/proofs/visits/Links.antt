-- Calls by the links of their points
use Rattle.std.proofs.Common.{◌≡◌, ℕ, refl, sym, ap, ◌∙◌, subst}
use Rattle.flow_graph.specs.declared.edge.Edge.TheVariants.{Call}
use Rattle.flow_graph.specs.Paths.{IsEdge}
use Rattle.flow_links.specs.LinkLists.{IsCallLink, IsCallerOf}
use Rattle.flow_links.specs.Shapes.{after_site}
use Rattle.flow_links.specs.declared.link.CallLink.{CallLink}
use Rattle.summary_equations.specs.Equations.{CallsAt}
use Rattle.flow_why.specs.code.Frames.{IsFrame, question_of}
use Rattle.flow_why.specs.declared.frame.Frame.{Frame}

module _ (frame : Frame) (is : IsFrame frame) where
  -- an edge that is a call calls the procedure of its end
  call_by_edge : (site x y : ℕ) → IsEdge (question_of frame).shape (Call site x y)
      → CallsAt (question_of frame).shape site x ((question_of frame).shape.procedure_of y)
  call_by_edge site x y edge =
      let (there, at_entry) = is.numbered.formed.call_to_entry site x y edge in
      (there, subst (λ z. IsEdge (question_of frame).shape (Call site x z)) at_entry edge)

  -- the procedure that is left at the exit of a procedure
  exit_procedure : (site x y exit : ℕ) → IsEdge (question_of frame).shape (Call site x y)
      → exit ≡ (question_of frame).shape.exit ((question_of frame).shape.procedure_of y)
      → (question_of frame).shape.procedure_of exit ≡ (question_of frame).shape.procedure_of y
  exit_procedure site x y exit edge same =
      ap (question_of frame).shape.procedure_of same ∙ is.numbered.formed.exit_inside _ (is.numbered.formed.call_to_entry site x y edge).0

  -- a link tells a call of the procedure whose exit it names
  pub call_by_link : (x : ℕ) (link : CallLink) → IsCallLink (question_of frame).shape frame.links.now.backward x link
      → (site : ℕ) × CallsAt (question_of frame).shape site x ((question_of frame).shape.procedure_of link.exit)
  call_by_link x link there =
      let (site, y, edge, exit, after) = there in
      (site, subst (CallsAt (question_of frame).shape site x) (sym (exit_procedure site x y link.exit edge exit)) (call_by_edge site x y edge))

  -- a call has a link
  pub link_of_call : (site x p : ℕ) → CallsAt (question_of frame).shape site x p
      → (link : CallLink) × IsCallLink (question_of frame).shape frame.links.now.backward x link
      × ((question_of frame).shape.procedure_of link.exit ≡ p)
  link_of_call site x p call =
      let shape = (question_of frame).shape in
      let inside = is.numbered.formed.entry_inside p call.0 in (
        record { exit = shape.exit (shape.procedure_of (shape.entry p)); after = after_site frame.links.now.backward site },
        (site, shape.entry p, call.1, refl, refl),
        exit_procedure site x (shape.entry p) (shape.exit (shape.procedure_of (shape.entry p))) call.1 refl ∙ inside,
      )

  -- a caller of an exit calls the procedure that is left there
  pub call_by_caller : (exit x : ℕ) → IsCallerOf (question_of frame).shape exit x
      → (site : ℕ) × CallsAt (question_of frame).shape site x ((question_of frame).shape.procedure_of exit)
      × ((question_of frame).shape.exit ((question_of frame).shape.procedure_of exit) ≡ exit)
  call_by_caller exit x there =
      let (site, y, edge, same) = there in
      let procedure = exit_procedure site x y exit edge (sym same) in (
        site,
        subst (CallsAt (question_of frame).shape site x) (sym procedure) (call_by_edge site x y edge),
        ap (question_of frame).shape.exit procedure ∙ same,
      )

  -- a call of a procedure makes its point a caller of the exit
  pub caller_of_call : (site x p exit : ℕ) → CallsAt (question_of frame).shape site x p → exit ≡ (question_of frame).shape.exit p
      → IsCallerOf (question_of frame).shape exit x
  caller_of_call site x p exit call same =
      let shape = (question_of frame).shape in
      (site, shape.entry p, call.1, ap shape.exit (is.numbered.formed.entry_inside p call.0) ∙ sym same)
