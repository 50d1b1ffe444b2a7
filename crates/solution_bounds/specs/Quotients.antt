-- An upper bound for a bit whose statements stand in few procedures: all others are taken as one.
--
-- The procedures inside have values at their points. Of those outside it is known that no statement generates the bit; whether one kills
-- it is of no account, since a bound from above may take each call of one to preserve the bit. Such a call generates the bit only if it
-- leads back to a procedure inside; whether that happens anywhere is one value for all of them, and so is whether the bit is brought to
-- one. These are the summary equations (Reps, Horwitz, Sagiv 1995) over the graph in which the procedures outside are one node.
use Rattle.std.specs.Prelude.{◌≡◌, ℕ, Bool, true, false, not, ◌<◌, ◌&&◌, ◌||◌, if◌then◌else◌}
use Rattle.flow_graph.specs.declared.edge.Edge.TheVariants.{Step}
use Rattle.flow_graph.specs.Paths.{Shape, Transfer, IsEdge}
use Rattle.summary_equations.specs.Equations.{CallsAt, ReturnsTo}
use Rattle.summary_equations.specs.Laws.{Passes}
use Rattle.solution_bounds.specs.Bounds.{Values}

-- Which procedures are inside, and which lead to one by calls; the values of the points and procedures inside; and of all procedures
-- outside together, whether one may hand the bit out generated, and whether the bit may be brought to one that leads inside.
pub record Quotient : Type 0 where
  pub inside : ℕ → Bool
  pub leads : ℕ → Bool
  pub preserved : ℕ → Bool
  pub generated : ℕ → Bool
  pub brought : ℕ → Bool
  pub outside_generates : Bool
  pub outside_brought : Bool

-- The values that a quotient stands for, at all points and procedures. Outside everything is preserved; the bit is generated at
-- each point of a procedure that leads inside, or at none; and it is brought to each of these, or to none. What leads nowhere
-- inside brings nothing back, so the bit may be brought there for all that is asked.
abbrev pub preserved_by : Shape → Quotient → ℕ → Bool
preserved_by shape quotient point = if quotient.inside (shape.procedure_of point) then quotient.preserved point else true

abbrev pub generated_by : Shape → Quotient → ℕ → Bool
generated_by shape quotient point =
    if quotient.inside (shape.procedure_of point) then quotient.generated point else (quotient.outside_generates && quotient.leads (shape.procedure_of point))

abbrev pub brought_by : Quotient → ℕ → Bool
brought_by quotient procedure =
    if quotient.inside procedure then quotient.brought procedure else (not (quotient.leads procedure) || quotient.outside_brought)

abbrev pub values_of : Shape → (ℕ → Bool) → (ℕ → Bool) → Quotient → Values
values_of shape reached entered quotient = record {
  reached = reached;
  preserved = preserved_by shape quotient;
  generated = generated_by shape quotient;
  entered = entered;
  brought = brought_by quotient;
}

-- what a call of a procedure does: whether the bit is preserved by it, and whether it is generated
abbrev pub callee_preserves : Shape → Quotient → ℕ → Bool
callee_preserves shape quotient procedure = if quotient.inside procedure then quotient.preserved (shape.exit procedure) else true

abbrev pub callee_generates : Shape → Quotient → ℕ → Bool
callee_generates shape quotient procedure =
    if quotient.inside procedure then quotient.generated (shape.exit procedure) else (quotient.outside_generates && quotient.leads procedure)

-- a point of a procedure inside, and of one outside
abbrev pub IsInside : Shape → Quotient → ℕ → Type 0
IsInside shape quotient point = quotient.inside (shape.procedure_of point) ≡ true

abbrev pub IsOutside : Shape → Quotient → ℕ → Type 0
IsOutside shape quotient point = quotient.inside (shape.procedure_of point) ≡ false

-- A procedure that calls one inside leads inside, and so does one that calls a procedure which does.
pub record LeadsInside (shape : Shape) (quotient : Quotient) : Type 0 where
  pub to_inside : (site x procedure : ℕ) → CallsAt shape site x procedure → Passes quotient.inside procedure → Passes quotient.leads (shape.procedure_of x)
  pub by_callee : (site x procedure : ℕ) → CallsAt shape site x procedure → Passes quotient.leads procedure → Passes quotient.leads (shape.procedure_of x)

-- The clauses of the equations at the points inside, a call having its callee's effect.
pub record IsPreservedBound (shape : Shape) (kill : ℕ → ℕ → Bool) (reached : ℕ → Type 0) (quotient : Quotient) : Type 0 where
  pub entry : (procedure : ℕ) → procedure < shape.procedures → Passes quotient.inside procedure → Passes quotient.preserved (shape.entry procedure)
  pub step : (x y : ℕ) → IsEdge shape (Step x y) → IsInside shape quotient x → reached x
      → Passes quotient.preserved x → kill x y ≡ false → Passes quotient.preserved y
  pub call : (site x procedure z : ℕ) → CallsAt shape site x procedure → ReturnsTo shape site procedure z → IsInside shape quotient x
      → reached x → reached (shape.exit procedure)
      → Passes quotient.preserved x → Passes (callee_preserves shape quotient) procedure → Passes quotient.preserved z

-- Beside these clauses: no step outside generates the bit, and where a procedure outside calls one inside whose exit generates it, those
-- outside may hand it out.
pub record IsGeneratedBound (shape : Shape) (transfer : Transfer) (reached : ℕ → Type 0) (quotient : Quotient) : Type 0 where
  pub by_step : (x y : ℕ) → IsEdge shape (Step x y) → IsInside shape quotient x → reached x → transfer.gen x y ≡ true → Passes quotient.generated y
  pub before_step : (x y : ℕ) → IsEdge shape (Step x y) → IsInside shape quotient x → reached x
      → Passes quotient.generated x → transfer.kill x y ≡ false → Passes quotient.generated y
  pub by_callee : (site x procedure z : ℕ) → CallsAt shape site x procedure → ReturnsTo shape site procedure z → IsInside shape quotient x
      → reached x → reached (shape.exit procedure) → Passes (callee_generates shape quotient) procedure → Passes quotient.generated z
  pub before_call : (site x procedure z : ℕ) → CallsAt shape site x procedure → ReturnsTo shape site procedure z → IsInside shape quotient x
      → reached x → reached (shape.exit procedure)
      → Passes quotient.generated x → Passes (callee_preserves shape quotient) procedure → Passes quotient.generated z
  pub step_outside : (x y : ℕ) → IsEdge shape (Step x y) → IsOutside shape quotient x → transfer.gen x y ≡ false
  pub call_from_outside : (site x procedure z : ℕ) → CallsAt shape site x procedure → ReturnsTo shape site procedure z → IsOutside shape quotient x
      → Passes quotient.inside procedure → reached x → reached (shape.exit procedure)
      → Passes quotient.generated (shape.exit procedure) → quotient.outside_generates ≡ true

-- Of brought: the boundary and calls from points inside, to procedures of both kinds; what those outside hand out is brought to those
-- outside; and what is brought to those outside is brought to each procedure inside that one of them calls.
pub record IsBroughtBound (shape : Shape) (transfer : Transfer) (reached entered : ℕ → Type 0) (quotient : Quotient) : Type 0 where
  pub boundary : transfer.boundary ≡ true → Passes (brought_by quotient) shape.root_procedure
  pub where_generated : (site x procedure : ℕ) → CallsAt shape site x procedure → IsInside shape quotient x
      → entered (shape.procedure_of x) → reached x → Passes quotient.generated x → Passes (brought_by quotient) procedure
  pub where_preserved : (site x procedure : ℕ) → CallsAt shape site x procedure → IsInside shape quotient x
      → entered (shape.procedure_of x) → reached x
      → Passes quotient.brought (shape.procedure_of x) → Passes quotient.preserved x → Passes (brought_by quotient) procedure
  pub outside : quotient.outside_generates ≡ true → quotient.outside_brought ≡ true
  pub call_from_outside : (site x procedure : ℕ) → CallsAt shape site x procedure → IsOutside shape quotient x → Passes quotient.inside procedure
      → entered (shape.procedure_of x) → reached x → quotient.outside_brought ≡ true → Passes quotient.brought procedure

-- A quotient that bounds the least solution from above. Nothing is asked of how its values were found.
pub record IsQuotientBound (shape : Shape) (transfer : Transfer) (reached entered : ℕ → Type 0) (quotient : Quotient) : Type 0 where
  pub leads : LeadsInside shape quotient
  pub preserved : IsPreservedBound shape transfer.kill reached quotient
  pub generated : IsGeneratedBound shape transfer reached quotient
  pub brought : IsBroughtBound shape transfer reached entered quotient
