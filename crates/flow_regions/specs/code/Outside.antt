-- Calls between the procedures of a region and those outside.
use Rattle.std.specs.Prelude.{◌≡◌, ◌||◌, ◌<◌, ℕ, Bool, true, false, List, slice_index_or}
use Rattle.flow_graph.specs.Paths.{Shape}
use Rattle.summary_equations.specs.Equations.{CallsAt}

-- what calls one inside, or one that leads inside, leads inside
abbrev pub AreLeading : Shape → List Bool → List Bool → Type 0
AreLeading shape inside leads = (site x p : ℕ) → CallsAt shape site x p
    → (slice_index_or inside p false || slice_index_or leads p false) ≡ true → slice_index_or leads (shape.procedure_of x) false ≡ true

-- a procedure is called from inside alone
abbrev pub IsCalledOnlyInside : Shape → List Bool → ℕ → Type 0
IsCalledOnlyInside shape inside p = (site x : ℕ) → CallsAt shape site x p → slice_index_or inside (shape.procedure_of x) false ≡ true

-- the first procedures are marked, if they are inside and called from outside
abbrev pub AreCalled : Shape → List Bool → List Bool → ℕ → Type 0
AreCalled shape inside called until = (site x p : ℕ) → p < until → CallsAt shape site x p
    → slice_index_or inside (shape.procedure_of x) false ≡ false → slice_index_or inside p false ≡ true → slice_index_or called p false ≡ true
