-- The clauses of points, procedures and frames in their parts
use Rattle.std.proofs.Common.{◌≡◌, ◌⊎◌, ◌<◌, ℕ, true, false, List, length, slice_index, inl, inr, sym, subst, ◌∙◌}
use Rattle.flow_graph.specs.Points.{point_count}
use Rattle.flow_bounds.specs.Clauses.{Clause, IsPointInside, IsTaken, ProcedureClause, RootClause, cell_count, is_inside, shape_in}
use Rattle.flow_bounds.specs.Clauses.{of_step, of_inner, of_outer, of_procedure, of_root}
use Rattle.flow_bounds.specs.code.Frames.{Adds, BelowClause, CallsClause, InsideClause, IsFrame, PointClause, StepsClause}
use Rattle.flow_bounds.specs.declared.frame.Frame.{Frame}
use Rattle.flow_bounds.specs.declared.rule.Rule.{Rule}
use Rattle.flow_bounds.proofs.telling.Adding.{adds_as, adds_both, adds_nothing}

pub point_adds : (frame : Frame) (x : ℕ) (old between new : List Rule) → IsTaken frame x → Adds (cell_count frame) (StepsClause frame x) old between
    → Adds (cell_count frame) (CallsClause frame x) between new → Adds (cell_count frame) (PointClause frame x) old new
point_adds frame x old between new taken = adds_both (cell_count frame) (StepsClause frame x) (CallsClause frame x) (PointClause frame x) old between new
    (λ bit to first second small clause. (taken, inl clause)) (λ bit to first second small clause. (taken, inr clause))
    (λ bit to first second small clause. clause.1)

pub no_point_adds : (frame : Frame) (x : ℕ) (rules : List Rule) → (IsTaken frame x → ⊥) → Adds (cell_count frame) (PointClause frame x) rules rules
no_point_adds frame x rules never = adds_nothing (cell_count frame) (PointClause frame x) rules (λ bit to first second clause. never clause.0)

pub inside_adds : (frame : Frame) (p : ℕ) (old new : List Rule) → is_inside frame p ≡ true → Adds (cell_count frame) (ProcedureClause frame p) old new
    → Adds (cell_count frame) (InsideClause frame p) old new
inside_adds frame p old new inside = adds_as (cell_count frame) (ProcedureClause frame p) (InsideClause frame p) old new
    (λ bit to first second small clause. (inside, clause)) (λ bit to first second small clause. clause.1)

pub outside_adds : (frame : Frame) (p : ℕ) (rules : List Rule) → is_inside frame p ≡ false → Adds (cell_count frame) (InsideClause frame p) rules rules
outside_adds frame p rules outside = adds_nothing (cell_count frame) (InsideClause frame p) rules
    (λ bit to first second clause. cc (sym outside ∙ clause.0))

module _ (frame : Frame) (is_frame : IsFrame frame) where
  abbrev PointsClause : ℕ → ℕ → ℕ → ℕ → Type 0
  PointsClause = BelowClause (λ i. PointClause frame (slice_index frame.points.now i)) (length frame.points.now)

  abbrev ProceduresClause : ℕ → ℕ → ℕ → ℕ → Type 0
  ProceduresClause = BelowClause (InsideClause frame) (shape_in frame).procedures

  abbrev BothClause : ℕ → ℕ → ℕ → ℕ → Type 0
  BothClause bit to first second = RootClause frame bit to first second ⊎ ProceduresClause bit to first second

  of_point : (x bit to first second : ℕ) → IsPointInside frame x → PointClause frame x bit to first second → Clause frame bit to first second
  of_point x bit to first second inside (taken, inl (y, edge, clause)) = of_step x y edge inside taken clause
  of_point x bit to first second inside (taken, inr (site, p, z, call, return, inl (inner, clause))) = of_inner site x p z call return inside taken inner clause
  of_point x bit to first second inside (taken, inr (site, p, z, call, return, inr (outer, clause))) = of_outer site x p z call return inside taken outer clause

  of_points : (bit to first second : ℕ) → bit < 64 → PointsClause bit to first second → Clause frame bit to first second
  of_points bit to first second small (i, low, clause) = of_point (slice_index frame.points.now i) bit to first second (is_frame.within i low).1 clause

  of_both : (bit to first second : ℕ) → bit < 64 → BothClause bit to first second → Clause frame bit to first second
  of_both bit to first second small (inl clause) = of_root clause
  of_both bit to first second small (inr (p, low, (inside, clause))) = of_procedure p low inside clause

  -- a point inside is one of the points
  among : (x bit to first second : ℕ) → x < point_count frame.links.now.program → IsPointInside frame x → PointClause frame x bit to first second
      → PointsClause bit to first second
  among x bit to first second there inside clause =
      let place = is_frame.placed x there inside in
      (slice_index frame.places.now x, place.0, subst (λ y. PointClause frame y bit to first second) (sym place.1) clause)

  parts : (bit to first second : ℕ) → bit < 64 → Clause frame bit to first second → BothClause bit to first second ⊎ PointsClause bit to first second
  parts bit to first second small (of_step x y edge inside taken clause) =
      inr (among x bit to first second (is_frame.numbered.edge_in_range _ edge).0 inside (taken, inl (y, edge, clause)))
  parts bit to first second small (of_inner site x p z call return inside taken inner clause) =
      inr (among x bit to first second (is_frame.numbered.edge_in_range _ call.1).0 inside (taken, inr (site, p, z, call, return, inl (inner, clause))))
  parts bit to first second small (of_outer site x p z call return inside taken outer clause) =
      inr (among x bit to first second (is_frame.numbered.edge_in_range _ call.1).0 inside (taken, inr (site, p, z, call, return, inr (outer, clause))))
  parts bit to first second small (of_procedure p low inside clause) = inl (inr (p, low, (inside, clause)))
  parts bit to first second small (of_root clause) = inl (inl clause)

  pub clauses_add : (old a b new : List Rule) → Adds (cell_count frame) (RootClause frame) old a → Adds (cell_count frame) ProceduresClause a b
      → Adds (cell_count frame) PointsClause b new → Adds (cell_count frame) (Clause frame) old new
  clauses_add old a b new root procedures points =
      adds_both (cell_count frame) BothClause PointsClause (Clause frame) old b new of_both of_points parts
      (adds_both (cell_count frame) (RootClause frame) ProceduresClause BothClause old a b (λ bit to first second small clause. inl clause)
      (λ bit to first second small clause. inr clause) (λ bit to first second small clause. clause) root procedures) points
