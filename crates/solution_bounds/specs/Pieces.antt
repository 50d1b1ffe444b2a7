-- A quotient in pieces: of each procedure inside only what others see of it is kept, and its values are found anew where they are asked for.
--
-- So a bit can be solved procedure by procedure, the values at its points being forgotten in between (summaries of procedures: Reps,
-- Horwitz, Sagiv 1995).
use Rattle.std.specs.Prelude.{◌≡◌, ◌<◌, ℕ, Bool, true, false, not, ◌&&◌, ◌||◌, if◌then◌else◌}
use Rattle.flow_graph.specs.declared.edge.Edge.TheVariants.{Step}
use Rattle.flow_graph.specs.Paths.{Shape, Transfer, IsEdge}
use Rattle.summary_equations.specs.Equations.{CallsAt, ReturnsTo}
use Rattle.summary_equations.specs.Laws.{Passes}
use Rattle.solution_bounds.specs.Quotients.{Quotient}

-- What is kept of a bit: which procedures are inside, which lead to one by calls; whether the bit is preserved, or generated, at the exit of
-- each procedure inside, and whether it is brought to it; and the two values of all procedures outside together.
pub record Summary : Type 0 where
  pub inside : ℕ → Bool
  pub leads : ℕ → Bool
  pub preserves : ℕ → Bool
  pub generates : ℕ → Bool
  pub brought : ℕ → Bool
  pub outside_generates : Bool
  pub outside_brought : Bool

-- whether a call of a procedure preserves the bit, or generates it, and whether the bit may be brought to a procedure of either kind
abbrev pub call_preserves : Summary → ℕ → Bool
call_preserves summary procedure = if summary.inside procedure then summary.preserves procedure else true

abbrev pub call_generates : Summary → ℕ → Bool
call_generates summary procedure =
    if summary.inside procedure then summary.generates procedure else (summary.outside_generates && summary.leads procedure)

abbrev pub call_brings : Summary → ℕ → Bool
call_brings summary procedure =
    if summary.inside procedure then summary.brought procedure else (not (summary.leads procedure) || summary.outside_brought)

-- the values at the points of one procedure
pub record Rows : Type 0 where
  pub preserved : ℕ → Bool
  pub generated : ℕ → Bool

-- Values of one procedure that fit the summary: they are closed under the clauses in that procedure, its calls having the effects that
-- are kept of their callees; what they have at its exit and before its calls is kept.
pub record IsPiece (shape : Shape) (transfer : Transfer) (reached entered : ℕ → Type 0) (summary : Summary) (procedure : ℕ) (rows : Rows) : Type 0 where
  pub entry : procedure < shape.procedures → Passes rows.preserved (shape.entry procedure)
  pub preserved_step : (x y : ℕ) → IsEdge shape (Step x y) → shape.procedure_of x ≡ procedure → reached x
      → Passes rows.preserved x → transfer.kill x y ≡ false → Passes rows.preserved y
  pub preserved_call : (site x callee z : ℕ) → CallsAt shape site x callee → ReturnsTo shape site callee z → shape.procedure_of x ≡ procedure
      → reached x → reached (shape.exit callee) → Passes rows.preserved x → Passes (call_preserves summary) callee → Passes rows.preserved z
  pub generated_by_step : (x y : ℕ) → IsEdge shape (Step x y) → shape.procedure_of x ≡ procedure → reached x
      → transfer.gen x y ≡ true → Passes rows.generated y
  pub generated_before_step : (x y : ℕ) → IsEdge shape (Step x y) → shape.procedure_of x ≡ procedure → reached x
      → Passes rows.generated x → transfer.kill x y ≡ false → Passes rows.generated y
  pub generated_by_callee : (site x callee z : ℕ) → CallsAt shape site x callee → ReturnsTo shape site callee z → shape.procedure_of x ≡ procedure
      → reached x → reached (shape.exit callee) → Passes (call_generates summary) callee → Passes rows.generated z
  pub generated_before_call : (site x callee z : ℕ) → CallsAt shape site x callee → ReturnsTo shape site callee z → shape.procedure_of x ≡ procedure
      → reached x → reached (shape.exit callee) → Passes rows.generated x → Passes (call_preserves summary) callee → Passes rows.generated z
  pub exit_preserved : Passes rows.preserved (shape.exit procedure) → Passes summary.preserves procedure
  pub exit_generated : Passes rows.generated (shape.exit procedure) → Passes summary.generates procedure
  pub brought_where_generated : (site x callee : ℕ) → CallsAt shape site x callee → shape.procedure_of x ≡ procedure
      → entered procedure → reached x → Passes rows.generated x → Passes (call_brings summary) callee
  pub brought_where_preserved : (site x callee : ℕ) → CallsAt shape site x callee → shape.procedure_of x ≡ procedure
      → entered procedure → reached x → Passes summary.brought procedure → Passes rows.preserved x → Passes (call_brings summary) callee

-- What has to hold of a summary beside its pieces: of procedures that lead inside, of the boundary, and of procedures outside.
pub record IsSummary (shape : Shape) (transfer : Transfer) (reached entered : ℕ → Type 0) (summary : Summary) : Type 0 where
  pub leads_to_inside : (site x procedure : ℕ) → CallsAt shape site x procedure → Passes summary.inside procedure → Passes summary.leads (shape.procedure_of x)
  pub leads_by_callee : (site x procedure : ℕ) → CallsAt shape site x procedure → Passes summary.leads procedure → Passes summary.leads (shape.procedure_of x)
  pub boundary : transfer.boundary ≡ true → Passes (call_brings summary) shape.root_procedure
  pub step_outside : (x y : ℕ) → IsEdge shape (Step x y) → summary.inside (shape.procedure_of x) ≡ false → transfer.gen x y ≡ false
  pub generated_outside : (site x procedure z : ℕ) → CallsAt shape site x procedure → ReturnsTo shape site procedure z
      → summary.inside (shape.procedure_of x) ≡ false → Passes summary.inside procedure → reached x → reached (shape.exit procedure)
      → Passes summary.generates procedure → summary.outside_generates ≡ true
  pub brought_outside : summary.outside_generates ≡ true → summary.outside_brought ≡ true
  pub brought_from_outside : (site x procedure : ℕ) → CallsAt shape site x procedure → summary.inside (shape.procedure_of x) ≡ false
      → Passes summary.inside procedure → entered (shape.procedure_of x) → reached x → summary.outside_brought ≡ true → Passes summary.brought procedure

-- each procedure inside has values that fit
abbrev pub HasPieces : Shape → Transfer → (ℕ → Type 0) → (ℕ → Type 0) → Summary → Type 0
HasPieces shape transfer reached entered summary =
    (procedure : ℕ) → Passes summary.inside procedure → (rows : Rows) × IsPiece shape transfer reached entered summary procedure rows

-- what others see of a quotient's values
abbrev pub summary_of : Shape → Quotient → Summary
summary_of shape quotient = record {
  inside = quotient.inside;
  leads = quotient.leads;
  preserves = λ p. quotient.preserved (shape.exit p);
  generates = λ p. quotient.generated (shape.exit p);
  brought = quotient.brought;
  outside_generates = quotient.outside_generates;
  outside_brought = quotient.outside_brought;
}
