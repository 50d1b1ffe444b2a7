-- Witnesses: short lists of hops that stand for valid paths, and what such a list unfolds to.
--
-- A hop is a step, a call that is left open, or a call that is passed as a whole. The last stands for the call, some matched path
-- through the callee that has the effect, and the return (interprocedurally valid paths and summaries of procedures: Reps,
-- Horwitz, Sagiv 1995). All is said of a forward problem; a backward one is solved by its reversal.
use Rattle.std.specs.Prelude.{◌≡◌, ◌<◌, ℕ, true, false, List, [], ◌∷◌, ◌++◌}
use Rattle.flow_graph.specs.declared.edge.Edge.{Edge}
use Rattle.flow_graph.specs.declared.edge.Edge.TheVariants.{Step, Call, Ret}
use Rattle.flow_graph.specs.Paths.{Shape, Transfer, HasPath, IsEdge, IsValidPath, SomePathHas, value_after}
use Rattle.flow_graph.specs.MatchedPaths.{IsMatchedPath, is_preserved_along}
use Rattle.flow_why.specs.declared.hop.Effect.{Effect}
use Rattle.flow_why.specs.declared.hop.Effect.TheVariants.{Reaches, Generates, Preserves}
use Rattle.flow_why.specs.declared.hop.Hop.{Hop}
use Rattle.flow_why.specs.declared.hop.Hop.TheVariants as hop

-- A path has an effect: none is asked for, or the bit is in its value whatever was there before, or no step of it kills the bit, which
-- is then there where it was there before.
abbrev pub HasEffect : Transfer → Effect → List Edge → Type 0
HasEffect transfer Reaches path = Unit {0}
HasEffect transfer Generates path = value_after transfer path false ≡ true
HasEffect transfer Preserves path = is_preserved_along transfer.kill path ≡ true

-- a path leads through a procedure, from its entry to its exit, and has an effect
abbrev pub IsThrough : Shape → Transfer → ℕ → Effect → List Edge → Type 0
IsThrough shape transfer procedure effect path =
    IsMatchedPath shape (shape.entry procedure) path (shape.exit procedure) × HasEffect transfer effect path

-- A hop stands for a path: a step and an open call for their edge, a call that is passed for the call, any path through the callee
-- that has the effect, and the return.
abbrev pub StandsFor : Shape → Transfer → Hop → List Edge → Type 0
StandsFor shape transfer (hop.Step x y) path = path ≡ Step x y ∷ []
StandsFor shape transfer (hop.Enter site x y) path = path ≡ Call site x y ∷ []
StandsFor shape transfer (hop.Pass site x callee z effect) path =
    (inner : List Edge) × (path ≡ Call site x (shape.entry callee) ∷ (inner ++ Ret site (shape.exit callee) z ∷ []))
    × IsThrough shape transfer callee effect inner

-- hops unfold to a path: one after the other, each stands for a part of it
abbrev pub Unfolds : Shape → Transfer → List Hop → List Edge → Type 0
Unfolds shape transfer [] path = path ≡ []
Unfolds shape transfer (first ∷ hops) path =
    (front : List Edge) × (back : List Edge) × (path ≡ front ++ back) × StandsFor shape transfer first front × Unfolds shape transfer hops back

-- A witness of a bit at a point: the hops unfold to a path, and each path to which they unfold is valid, leads to the point and
-- has the bit in its value.
pub record IsWitness (shape : Shape) (transfer : Transfer) (point : ℕ) (hops : List Hop) : Type 0 where
  pub unfolds : (path : List Edge) × Unfolds shape transfer hops path
  pub valid : (path : List Edge) → Unfolds shape transfer hops path → IsValidPath shape path point
  pub has : (path : List Edge) → Unfolds shape transfer hops path → value_after transfer path transfer.boundary ≡ true

-- A witness of an effect of a procedure: the hops unfold to a path, and each path to which they unfold leads through the procedure
-- and has the effect.
pub record IsThroughWitness (shape : Shape) (transfer : Transfer) (procedure : ℕ) (effect : Effect) (hops : List Hop) : Type 0 where
  pub unfolds : (path : List Edge) × Unfolds shape transfer hops path
  pub through : (path : List Edge) → Unfolds shape transfer hops path → IsThrough shape transfer procedure effect path

-- A call's point is one where a hop with the effect may stand: a valid path leads there, and where the bit is kept, one that has it.
abbrev pub MayPassAt : Shape → Transfer → Effect → ℕ → Type 0
MayPassAt shape transfer Reaches x = HasPath shape x
MayPassAt shape transfer Generates x = HasPath shape x
MayPassAt shape transfer Preserves x = SomePathHas shape transfer x

-- no path through a procedure has an effect that is asked for at some call of it
abbrev pub IsNeverPassed : Shape → Transfer → ℕ → Effect → Type 0
IsNeverPassed shape transfer procedure effect =
    (site x : ℕ) (path : List Edge) → (procedure < shape.procedures) × IsEdge shape (Call site x (shape.entry procedure))
    → MayPassAt shape transfer effect x → IsThrough shape transfer procedure effect path → ⊥
