-- Calls by their links
use Rattle.std.proofs.Common.{◌≡◌, ◌<◌, ℕ, true, false, List, Some, length, slice_get, slice_index, inl, inr, sym, ap, subst, ◌∙◌}
use Rattle.std.proofs.lemmas.Option.{get_or_from_slice_get, slice_get-get_or, slice_get_within}
use Rattle.std.proofs.lemmas.List.Elements.{Contains-get_or}
use Rattle.flow_graph.specs.declared.edge.Edge.TheVariants.{Call}
use Rattle.flow_graph.specs.Paths.{IsEdge, Shape}
use Rattle.flow_graph.specs.Points.{point_count}
use Rattle.flow_links.specs.LinkLists.{AreCallsFrom, AreStepsFrom, IsCallLink}
use Rattle.flow_links.specs.declared.link.CallLink.{CallLink}
use Rattle.summary_equations.specs.Equations.{CallsAt, ReturnsTo}
use Rattle.flow_bounds.specs.Clauses.{InnerClause, IsPointInside, OuterClause, StepClause, is_inside, shape_in}
use Rattle.flow_bounds.specs.code.Frames.{BelowClause, CallClause, CallsClause, IsFrame, LinkClause, StepsClause}
use Rattle.flow_bounds.specs.declared.frame.Frame.{Frame}

module _ (frame : Frame) (is_frame : IsFrame frame) where
  abbrev shape : Shape
  shape = shape_in frame

  abbrev points : ℕ
  points = point_count frame.links.now.program

  -- what a link says
  pub record IsLinked (x : ℕ) (link : CallLink) : Type 0 where
    pub site : ℕ
    pub call : CallsAt shape site x (shape.procedure_of link.exit)
    pub return : ReturnsTo shape site (shape.procedure_of link.exit) link.after
    pub exit_there : link.exit < points
    pub after_there : link.after < points
    pub after_inside : IsPointInside frame x → IsPointInside frame link.after

  pub linked : (x : ℕ) (link : CallLink) → IsCallLink shape frame.links.now.backward x link → IsLinked x link
  linked x link (site, y, edge, exit_is, after_is) =
      let to = is_frame.numbered.formed.call_to_entry site x y edge in
      let same : shape.procedure_of link.exit ≡ shape.procedure_of y =
      ap shape.procedure_of exit_is ∙ is_frame.numbered.formed.exit_inside (shape.procedure_of y) to.0 in
      let call : CallsAt shape site x (shape.procedure_of y) = (to.0, subst (λ e. IsEdge shape (Call site x e)) to.1 edge) in
      let return : ReturnsTo shape site (shape.procedure_of y) link.after = (is_frame.numbered.one_return site x y link.after edge).1 after_is in
      record {
        site = site;
        call = subst (λ p. CallsAt shape site x p) (sym same) call;
        return = subst (λ p. ReturnsTo shape site p link.after) (sym same) return;
        exit_there = subst (λ e. e < points) (sym exit_is) (is_frame.numbered.exit_in_range (shape.procedure_of y) to.0);
        after_there = (is_frame.numbered.edge_in_range _ return).1;
        after_inside = λ inside. subst (λ p. is_inside frame p ≡ true) (is_frame.numbered.formed.site_inside site x y _ link.after edge return) inside;
      }

  -- a call has its link
  link_of : (site x p z : ℕ) → CallsAt shape site x p → ReturnsTo shape site p z
      → IsCallLink shape frame.links.now.backward x (record { exit = shape.exit p; after = z })
  link_of site x p z call return =
      let same : p ≡ shape.procedure_of (shape.entry p) = sym (is_frame.numbered.formed.entry_inside p call.0) in (
        site,
        shape.entry p,
        call.1,
        ap shape.exit same,
        (is_frame.numbered.one_return site x (shape.entry p) z call.1).0 (subst (λ q. ReturnsTo shape site q z) same return),
      )

  module _ (x : ℕ) (calls : List CallLink) (are : AreCallsFrom shape frame.links.now.backward points x calls) where
    pub call_at : (j : ℕ) (link : CallLink) → slice_get calls j ≡ Some link → IsCallLink shape frame.links.now.backward x link
    call_at j link at =
        let low = slice_get_within calls j link at in
        (are.listed link).0 (j, low, get_or_from_slice_get calls j link link at)

    pub calls_from : (bit to first second : ℕ) → bit < 64 → BelowClause (CallClause frame x calls) (length calls) bit to first second
        → CallsClause frame x bit to first second
    calls_from bit to first second small (j, low, (link, at, clause)) =
        let is = linked x link (call_at j link at) in
        (is.site, shape.procedure_of link.exit, link.after, is.call, is.return, clause)

    pub calls_back : (bit to first second : ℕ) → bit < 64 → CallsClause frame x bit to first second
        → BelowClause (CallClause frame x calls) (length calls) bit to first second
    calls_back bit to first second small (site, p, z, call, return, clause) =
        let link : CallLink = record { exit = shape.exit p; after = z } in
        let (j, low, read) = (are.listed link).1 (link_of site x p z call return) in
        let at : slice_get calls j ≡ Some link = slice_get-get_or calls j link low ∙ ap (λ (l : CallLink). Some l) read in (
          j,
          low,
          (
            link,
            at,
            subst (λ q. LinkClause frame x q z bit to first second) (sym (is_frame.numbered.formed.exit_inside p call.0)) clause,
          ),
        )

  module _ (x : ℕ) (steps : List ℕ) (are : AreStepsFrom shape points x steps) where
    pub steps_from : (bit to first second : ℕ) → bit < 64 → BelowClause (λ j. StepClause frame x (slice_index steps j)) (length steps) bit to first second
        → StepsClause frame x bit to first second
    steps_from bit to first second small (j, low, clause) =
        (slice_index steps j, (are.listed (slice_index steps j)).0 (Contains-get_or steps j 0 low), clause)

    pub steps_back : (bit to first second : ℕ) → bit < 64 → StepsClause frame x bit to first second
        → BelowClause (λ j. StepClause frame x (slice_index steps j)) (length steps) bit to first second
    steps_back bit to first second small (y, edge, clause) =
        let (j, low, read) = (are.listed y).1 edge in
        let same : y ≡ slice_index steps j = sym read ∙ get_or_from_slice_get steps j (slice_index steps j) y (slice_get-get_or steps j 0 low) in
        (j, low, subst (λ n. StepClause frame x n bit to first second) same clause)

-- a call's clauses, where it is known whether its callee is inside
pub inner_from : (frame : Frame) (x p z : ℕ) → is_inside frame p ≡ true → (bit to first second : ℕ) → bit < 64
    → InnerClause frame x p z bit to first second → LinkClause frame x p z bit to first second
inner_from frame x p z inside bit to first second small clause = inl (inside, clause)

pub inner_back : (frame : Frame) (x p z : ℕ) → is_inside frame p ≡ true → (bit to first second : ℕ) → bit < 64
    → LinkClause frame x p z bit to first second → InnerClause frame x p z bit to first second
inner_back frame x p z inside bit to first second small (inl is) = is.1
inner_back frame x p z inside bit to first second small (inr is) = absurd (cc (sym inside ∙ is.0))

pub outer_from : (frame : Frame) (x p z : ℕ) → is_inside frame p ≡ false → (bit to first second : ℕ) → bit < 64
    → OuterClause frame x p z bit to first second → LinkClause frame x p z bit to first second
outer_from frame x p z outside bit to first second small clause = inr (outside, clause)

pub outer_back : (frame : Frame) (x p z : ℕ) → is_inside frame p ≡ false → (bit to first second : ℕ) → bit < 64
    → LinkClause frame x p z bit to first second → OuterClause frame x p z bit to first second
outer_back frame x p z outside bit to first second small (inl is) = absurd (cc (sym outside ∙ is.0))
outer_back frame x p z outside bit to first second small (inr is) = is.1
