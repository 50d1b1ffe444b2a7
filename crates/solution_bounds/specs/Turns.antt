-- What one procedure generates, brought to another by way of a third: up a tree of returns to a point, and from there down a tree of calls.
--
-- A valid path may return from procedures and then call others (Reps, Horwitz, Sagiv 1995). So a bit that is generated deep below one call
-- is brought to what is deep below a later call of the same procedure.
use Rattle.std.specs.Prelude.{ℕ, Bool, ◌<◌}
use Rattle.flow_graph.specs.Paths.{Shape}
use Rattle.summary_equations.specs.Equations.{CallsAt, ReturnsTo, Reached}
use Rattle.summary_equations.specs.Laws.{Passes}
use Rattle.solution_bounds.specs.Witnesses.{Way}

-- How a procedure returns to a point: a call of it does, with a way from behind the call to the point; or a call of it has a way
-- from behind it to its own procedure's exit, and that procedure returns to the point.
pub data Returns (shape : Shape) (kill : ℕ → ℕ → Bool) (through : ℕ → Bool) (point : ℕ) (above : ℕ → Type 0) : ℕ → Type 0 where
  returns_at_once : (site x procedure z : ℕ) → CallsAt shape site x procedure → ReturnsTo shape site procedure z → Reached shape x
      → Way shape kill through z point → Returns shape kill through point above procedure
  returns_by_caller : (site x procedure z : ℕ) → CallsAt shape site x procedure → ReturnsTo shape site procedure z → Reached shape x
      → above (shape.procedure_of x) → Way shape kill through z (shape.exit (shape.procedure_of x))
      → Returns shape kill through point above procedure

-- each procedure of a tree returns to the point, the one by which it does so having a smaller rank
abbrev pub IsReturnTree : Shape → (ℕ → ℕ → Bool) → (ℕ → Bool) → ℕ → (ℕ → Bool) → (ℕ → ℕ) → Type 0
IsReturnTree shape kill through point tree rank =
    (procedure : ℕ) → Passes tree procedure → Returns shape kill through point (λ r. Passes tree r × (rank r < rank procedure)) procedure
