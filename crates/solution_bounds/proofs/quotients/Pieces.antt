-- A summary and its pieces are a quotient
use Rattle.std.proofs.Common.{◌≡◌, ℕ, Bool, true, false, ◌&&◌, ◌||◌, nat_eq, ◌<◌, refl, sym, subst, ap, ◌∙◌}
use Rattle.std.proofs.lemmas.Bool.{eqb-true}
use Rattle.flow_graph.specs.Paths.{Shape, Transfer}
use Rattle.flow_graph.specs.WellFormed.{IsWellFormed}
use Rattle.flow_graph.proofs.paths.PathLemmas.{nat_eq_same}
use Rattle.summary_equations.specs.Equations.{Reached, Entered}
use Rattle.summary_equations.specs.Laws.{Passes}
use Rattle.solution_bounds.specs.Pieces.{Summary, Rows, IsPiece, IsSummary, HasPieces, call_preserves, call_generates, summary_of}
use Rattle.solution_bounds.specs.Quotients.{Quotient, callee_preserves, callee_generates, IsQuotientBound}
use Rattle.solution_bounds.specs.Laws.{PiecesBoundPoints, QuotientsHavePieces}
use Rattle.solution_bounds.proofs.quotients.Quotients.{quotients_bound_points, choose, chosen_first, chosen_second}

module _ (shape : Shape) (transfer : Transfer) (reached entered : ℕ → Type 0) (summary : Summary) (well : IsWellFormed shape)
    (is_summary : IsSummary shape transfer reached entered summary) (rows : ℕ → Rows)
    (pieces : (p : ℕ) → summary.inside p ≡ true → IsPiece shape transfer reached entered summary p (rows p)) where
  abbrev pub quotient_of : Quotient
  quotient_of = record {
    inside = summary.inside;
    leads = summary.leads;
    preserved = λ x. (rows (shape.procedure_of x)).preserved x;
    generated = λ x. (rows (shape.procedure_of x)).generated x;
    brought = summary.brought;
    outside_generates = summary.outside_generates;
    outside_brought = summary.outside_brought;
  }

  -- a point behind another has the values of the same procedure
  preserved_same : (x y : ℕ) → shape.procedure_of x ≡ shape.procedure_of y → (rows (shape.procedure_of x)).preserved y ≡ true
      → (rows (shape.procedure_of y)).preserved y ≡ true
  preserved_same x y same has = subst (λ p. (rows p).preserved y ≡ true) same has

  generated_same : (x y : ℕ) → shape.procedure_of x ≡ shape.procedure_of y → (rows (shape.procedure_of x)).generated y ≡ true
      → (rows (shape.procedure_of y)).generated y ≡ true
  generated_same x y same has = subst (λ p. (rows p).generated y ≡ true) same has

  exit_generates : (p : ℕ) → p < shape.procedures → Passes summary.inside p → quotient_of.generated (shape.exit p) ≡ true → Passes summary.generates p
  exit_generates p in_range inside has =
      (pieces p inside).exit_generated (subst (λ r. (rows r).generated (shape.exit p) ≡ true) (well.exit_inside p in_range) has)

  preserves : (p : ℕ) → p < shape.procedures → Passes (callee_preserves shape quotient_of) p → Passes (call_preserves summary) p
  preserves p in_range effect = choose _ _ _
      (λ inside. (pieces p inside).exit_preserved
      (subst (λ r. (rows r).preserved (shape.exit p) ≡ true) (well.exit_inside p in_range) (chosen_first _ _ _ inside effect)))
      (λ outside. refl)

  generates : (p : ℕ) → p < shape.procedures → Passes (callee_generates shape quotient_of) p → Passes (call_generates summary) p
  generates p in_range effect = choose _ _ _
      (λ inside. exit_generates p in_range inside (chosen_first _ _ _ inside effect))
      (λ outside. chosen_second _ _ _ outside effect)

  pub is_quotient_bound : IsQuotientBound shape transfer reached entered quotient_of
  is_quotient_bound = record {
    leads = record { to_inside = is_summary.leads_to_inside; by_callee = is_summary.leads_by_callee };
    preserved = record {
      entry = λ p in_range inside.
          subst (λ r. (rows r).preserved (shape.entry p) ≡ true) (sym (well.entry_inside p in_range)) ((pieces p inside).entry in_range);
      step = λ x y edge inside at_x before unkilled.
          preserved_same x y (well.step_inside x y edge) ((pieces _ inside).preserved_step x y edge refl at_x before unkilled);
      call = λ site x p z call return inside at_x at_exit before through.
          preserved_same x z (well.site_inside site x _ _ z call.1 return)
          ((pieces _ inside).preserved_call site x p z call return refl at_x at_exit before (preserves p call.0 through));
    };
    generated = record {
      by_step = λ x y edge inside at_x gens.
          generated_same x y (well.step_inside x y edge) ((pieces _ inside).generated_by_step x y edge refl at_x gens);
      before_step = λ x y edge inside at_x before unkilled.
          generated_same x y (well.step_inside x y edge) ((pieces _ inside).generated_before_step x y edge refl at_x before unkilled);
      by_callee = λ site x p z call return inside at_x at_exit through.
          generated_same x z (well.site_inside site x _ _ z call.1 return)
          ((pieces _ inside).generated_by_callee site x p z call return refl at_x at_exit (generates p call.0 through));
      before_call = λ site x p z call return inside at_x at_exit before through.
          generated_same x z (well.site_inside site x _ _ z call.1 return)
          ((pieces _ inside).generated_before_call site x p z call return refl at_x at_exit before (preserves p call.0 through));
      step_outside = is_summary.step_outside;
      call_from_outside = λ site x p z call return outside inside at_x at_exit has.
          is_summary.generated_outside site x p z call return outside inside at_x at_exit (exit_generates p call.0 inside has);
    };
    brought = record {
      boundary = is_summary.boundary;
      where_generated = λ site x p call inside at_caller at_x has. (pieces _ inside).brought_where_generated site x p call refl at_caller at_x has;
      where_preserved = λ site x p call inside at_caller at_x has keeps.
          (pieces _ inside).brought_where_preserved site x p call refl at_caller at_x has keeps;
      outside = is_summary.brought_outside;
      call_from_outside = is_summary.brought_from_outside;
    };
  }

-- rows of each procedure inside that fit, and those that are given at one of them
module _ (shape : Shape) (transfer : Transfer) (reached entered : ℕ → Type 0) (summary : Summary)
    (pieces : HasPieces shape transfer reached entered summary) (asked : ℕ) (given : Rows)
    (fits : IsPiece shape transfer reached entered summary asked given) where
  rows_where : (p : ℕ) (here inside : Bool) → nat_eq p asked ≡ here → summary.inside p ≡ inside → Rows
  rows_where p true inside is_here is_inside = given
  rows_where p false true is_here is_inside = (pieces p is_inside).0
  rows_where p false false is_here is_inside = given

  pub rows_of : ℕ → Rows
  rows_of p = rows_where p (nat_eq p asked) (summary.inside p) refl refl

  pub rows_fit : (p : ℕ) → summary.inside p ≡ true → IsPiece shape transfer reached entered summary p (rows_of p)
  unfolding rows_of rows_where
  rows_fit p inside_p = go (nat_eq p asked) (summary.inside p) refl refl inside_p
    where
      go : (here inside : Bool) (is_here : nat_eq p asked ≡ here) (is_inside : summary.inside p ≡ inside) → inside ≡ true
          → IsPiece shape transfer reached entered summary p (rows_where p here inside is_here is_inside)
      go true inside is_here is_inside holds =
          subst (λ q. IsPiece shape transfer reached entered summary q given) (sym (eqb-true p asked is_here)) fits
      go false true is_here is_inside holds = (pieces p is_inside).1
      go false false is_here is_inside holds = absurd (cc holds)

  pub rows_of-asked : rows_of asked ≡ given
  unfolding rows_of rows_where
  rows_of-asked = go (nat_eq asked asked) (summary.inside asked) refl refl (nat_eq_same asked)
    where
      go : (here inside : Bool) (is_here : nat_eq asked asked ≡ here) (is_inside : summary.inside asked ≡ inside) → here ≡ true
          → rows_where asked here inside is_here is_inside ≡ given
      go true inside is_here is_inside holds = refl
      go false inside is_here is_inside holds = absurd (cc holds)

pub pieces_bound_points : PiecesBoundPoints
pieces_bound_points shape transfer summary rows point well is_summary pieces inside fits member =
    let all = rows_of shape transfer (Reached shape) (Entered shape) summary pieces (shape.procedure_of point) rows fits in
    let fitting = rows_fit shape transfer (Reached shape) (Entered shape) summary pieces (shape.procedure_of point) rows fits in
    let bounded = quotients_bound_points shape transfer (quotient_of shape transfer (Reached shape) (Entered shape) summary well is_summary all fitting) point well
    (is_quotient_bound shape transfer (Reached shape) (Entered shape) summary well is_summary all fitting) inside member in
    subst (λ (r : Rows). (r.generated point || (summary.brought (shape.procedure_of point) && r.preserved point)) ≡ true)
    (rows_of-asked shape transfer (Reached shape) (Entered shape) summary pieces (shape.procedure_of point) rows fits) bounded

pub quotients_have_pieces : QuotientsHavePieces
quotients_have_pieces shape transfer reached entered quotient bound = (
  record {
    leads_to_inside = bound.leads.to_inside;
    leads_by_callee = bound.leads.by_callee;
    boundary = bound.brought.boundary;
    step_outside = bound.generated.step_outside;
    generated_outside = bound.generated.call_from_outside;
    brought_outside = bound.brought.outside;
    brought_from_outside = bound.brought.call_from_outside;
  },
  λ p inside.
      let at = λ (x : ℕ) (same : shape.procedure_of x ≡ p). ap quotient.inside same ∙ inside in
      let fits : IsPiece shape transfer (Passes reached) (Passes entered) (summary_of shape quotient) p
      (record { preserved = quotient.preserved; generated = quotient.generated }) = record {
        entry = λ in_range. bound.preserved.entry p in_range inside;
        preserved_step = λ x y edge same at_x before unkilled. bound.preserved.step x y edge (at x same) at_x before unkilled;
        preserved_call = λ site x q z call return same at_x at_exit before through.
            bound.preserved.call site x q z call return (at x same) at_x at_exit before through;
        generated_by_step = λ x y edge same at_x gens. bound.generated.by_step x y edge (at x same) at_x gens;
        generated_before_step = λ x y edge same at_x before unkilled. bound.generated.before_step x y edge (at x same) at_x before unkilled;
        generated_by_callee = λ site x q z call return same at_x at_exit through.
            bound.generated.by_callee site x q z call return (at x same) at_x at_exit through;
        generated_before_call = λ site x q z call return same at_x at_exit before through.
            bound.generated.before_call site x q z call return (at x same) at_x at_exit before through;
        exit_preserved = λ has. has;
        exit_generated = λ has. has;
        brought_where_generated = λ site x q call same at_caller at_x has.
            bound.brought.where_generated site x q call (at x same) (subst (Passes entered) (sym same) at_caller) at_x has;
        brought_where_preserved = λ site x q call same at_caller at_x has keeps.
            bound.brought.where_preserved site x q call (at x same) (subst (Passes entered) (sym same) at_caller) at_x
            (subst (Passes quotient.brought) (sym same) has) keeps;
      } in
      (record { preserved = quotient.preserved; generated = quotient.generated }, fits),
)
