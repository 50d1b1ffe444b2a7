-- Hops from one point to another, and what becomes of the bit.
use Rattle.std.specs.Prelude.{◌≡◌, ℕ, Bool, true, false, List, Option, Some, IsSome}
use Rattle.flow_graph.specs.declared.edge.Edge.{Edge}
use Rattle.flow_graph.specs.declared.edge.Edge.TheVariants.{Step, Call}
use Rattle.flow_graph.specs.Paths.{Shape, Transfer, IsEdge, IsPath, open_sites_after, value_after}
use Rattle.flow_graph.specs.MatchedPaths.{is_preserved_along}
use Rattle.summary_equations.specs.Equations.{CallsAt, ReturnsTo}
use Rattle.flow_why.specs.Witnesses.{IsThrough, Unfolds}
use Rattle.flow_why.specs.declared.hop.Effect.{Effect}
use Rattle.flow_why.specs.declared.hop.Effect.TheVariants.{Reaches, Generates, Preserves}
use Rattle.flow_why.specs.declared.hop.Hop.{Hop}
use Rattle.flow_why.specs.declared.hop.Hop.TheVariants as hop

-- A step leads from having the bit, or not, to having it, or not: where nothing is wanted behind it, always. What was had is not lost.
abbrev pub Crosses : Transfer → ℕ → ℕ → Bool → Bool → Type 0
Crosses transfer x y false false = Unit {0}
Crosses transfer x y true false = ⊥
Crosses transfer x y false true = transfer.gen x y ≡ true
Crosses transfer x y true true = transfer.kill x y ≡ false

-- the effect by which a call does so
abbrev pub effect_between : Bool → Bool → Effect
effect_between v false = Reaches
effect_between false true = Generates
effect_between true true = Preserves

-- A hop leads from a point, where the bit is there or nothing is said, to a point, where it is there or nothing is said. Inside a
-- procedure no call is left open.
pub data Moves (shape : Shape) (transfer : Transfer) (inner : Bool) : ℕ → Bool → Hop → ℕ → Bool → Type 0 where
  moves_by_step : (x y : ℕ) (v w : Bool) → IsEdge shape (Step x y) → shape.procedure_of x ≡ shape.procedure_of y
      → Crosses transfer x y v w → Moves shape transfer inner x v (hop.Step x y) y w
  moves_into_call : (site x y : ℕ) (v : Bool) → inner ≡ false → IsEdge shape (Call site x y) → Moves shape transfer inner x v (hop.Enter site x y) y v
  moves_past_call : (site x procedure z : ℕ) (v w : Bool) (effect : Effect) → CallsAt shape site x procedure → ReturnsTo shape site procedure z
      → shape.procedure_of x ≡ shape.procedure_of z → (v ≡ true → w ≡ true) → effect ≡ effect_between v w →
      (path : List Edge) × IsThrough shape transfer procedure effect path
      → Moves shape transfer inner x v (hop.Pass site x procedure z effect) z w

-- the sites that are open behind a path: none is closed, and where the path is inside a procedure, none is opened
abbrev pub Stay : Bool → List ℕ → Option (List ℕ) → Type 0
Stay true sites after = after ≡ Some sites
Stay false sites after = IsSome after

-- Hops lead from a point to another: they unfold, and each path to which they do is one between the two, keeps sites, and has the
-- bit where it is to have it. Inside a procedure they stay in it; where the bit was had, it is not killed.
pub record Lead (shape : Shape) (transfer : Transfer) (inner : Bool) (x : ℕ) (v : Bool) (hops : List Hop) (y : ℕ) (w : Bool) : Type 0 where
  pub unfolds : (path : List Edge) × Unfolds shape transfer hops path
  pub joins : (path : List Edge) → Unfolds shape transfer hops path → IsPath shape x path y
  pub sites : (path : List Edge) → Unfolds shape transfer hops path → (sites : List ℕ) → Stay inner sites (open_sites_after path (Some sites))
  pub value : (path : List Edge) → Unfolds shape transfer hops path → (before : Bool) → (v ≡ true → before ≡ true) → w ≡ true
      → value_after transfer path before ≡ true
  pub inside : inner ≡ true → shape.procedure_of x ≡ shape.procedure_of y
  pub rises : v ≡ true → w ≡ true
  pub keeps : (path : List Edge) → Unfolds shape transfer hops path → v ≡ true → is_preserved_along transfer.kill path ≡ true
