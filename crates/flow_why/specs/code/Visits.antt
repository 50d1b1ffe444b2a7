-- What visits of points add.
use Rattle.std.specs.Prelude.{◌≡◌, ℕ, true, false}
use Rattle.flow_graph.specs.declared.edge.Edge.{Edge}
use Rattle.flow_graph.specs.declared.edge.Edge.TheVariants.{Step, Call, Ret}
use Rattle.flow_graph.specs.Paths.{IsEdge}
use Rattle.summary_equations.specs.Equations.{CallsAt}
use Rattle.flow_why.specs.code.Found.{Found, Has}
use Rattle.flow_why.specs.code.Closed.{IsBegun, IsClosed}
use Rattle.flow_links.specs.Shapes.{directed_shape}
use Rattle.flow_why.specs.PointBits.{step_statement}
use Rattle.flow_why.specs.code.Frames.{call_after, question_of, step_begin, step_end}
use Rattle.flow_why.specs.code.Marked.{BaseHas, Question}
use Rattle.flow_why.specs.declared.claim.Claim.{Claim}
use Rattle.flow_why.specs.declared.frame.Frame.{Frame}
use Rattle.flow_why.specs.declared.claim.Claim.TheVariants as claim

-- what a visit of a claim of a point adds, by its steps
abbrev pub AreStepsVisited : Question → Claim → ℕ → Found → Type 0
AreStepsVisited question c x new =
    (y : ℕ) → IsEdge question.shape (Step x y) → question.transfer.kill x y ≡ false → Has new c y

-- by a call of a procedure
pub record IsCallVisited (question : Question) (c : Claim) (x p : ℕ) (old new : Found) : Type 0 where
  pub begin : question.scope.kept p ≡ false → Has new claim.Preserved (question.shape.entry p)
  pub enter : c ≡ claim.Holds → question.scope.skipped p ≡ false → Has new claim.Holds (question.shape.entry p)
  pub keep : question.scope.kept p ≡ true → Has new c (call_after question.backward x)
  pub pass : Has old claim.Preserved (question.shape.exit p) → Has new c (call_after question.backward x)

-- by a call from a point of the procedure that is left there
pub record IsCallerVisited (question : Question) (c : Claim) (y : ℕ) (old new : Found) : Type 0 where
  pub wake : c ≡ claim.Preserved → (d : Claim) → Has old d y → Has new d (call_after question.backward y)
  pub generate : c ≡ claim.Generated → (d : Claim) → BaseHas question.base d y → Has new d (call_after question.backward y)

-- and by all that
pub record IsVisited (question : Question) (c : Claim) (x : ℕ) (old new : Found) : Type 0 where
  pub steps : AreStepsVisited question c x new
  pub calls : (site p : ℕ) → CallsAt question.shape site x p → IsCallVisited question c x p old new
  pub callers : (site y p : ℕ) → CallsAt question.shape site y p → x ≡ question.shape.exit p → IsCallerVisited question c y old new

-- what a step from a point to which paths lead adds where it generates the bit
abbrev pub IsGenVisited : Question → ℕ → ℕ → Found → Type 0
IsGenVisited question x y new = (c : Claim) → question.transfer.gen x y ≡ true → BaseHas question.base c x → Has new c y

-- what all steps add that generate the bit
abbrev pub AreGensVisited : Question → Found → Type 0
AreGensVisited question new = (x y : ℕ) → IsEdge question.shape (Step x y) → IsGenVisited question x y new

-- what an edge of the program adds whose statement generates the bit, and what all edges of a statement add
abbrev pub IsEdgeGenVisited : Frame → Edge → Found → Type 0
IsEdgeGenVisited frame (Step x y) new =
    IsGenVisited (question_of frame) (step_begin frame.links.now.backward x y) (step_end frame.links.now.backward x y) new
IsEdgeGenVisited frame (Call site x y) new = Unit {0}
IsEdgeGenVisited frame (Ret site x y) new = Unit {0}

abbrev pub IsStatementGenVisited : Frame → ℕ → Found → Type 0
IsStatementGenVisited frame point new =
    (x y : ℕ) → IsEdge (directed_shape frame.links.now) (Step x y) → step_statement frame.links.now.backward x y ≡ point
    → IsGenVisited (question_of frame) x y new

-- all that follows was found
pub record IsComplete (question : Question) (found : Found) : Type 0 where
  pub closed : IsClosed question.shape question.transfer question.scope (BaseHas question.base) (Has found) (Has found)
  pub begun : IsBegun question.shape question.transfer (BaseHas question.base) (Has found)
