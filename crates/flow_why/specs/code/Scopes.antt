-- What a search for a bit at one point leaves out.
use Rattle.std.specs.Prelude.{◌≡◌, ◌<◌, ℕ, Bool, true, false, List, slice_index_or}
use Rattle.flow_graph.specs.declared.edge.Edge.TheVariants.{Step}
use Rattle.flow_graph.specs.Paths.{Shape, Transfer, IsEdge}
use Rattle.summary_equations.specs.Equations.{CallsAt, Preserved}
use Rattle.flow_why.specs.code.Closed.{IsScope, Scope}
use Rattle.flow_why.specs.code.Marked.{Question}
use Rattle.flow_why.specs.declared.scope.LeftOut.{LeftOut}

-- nothing is taken out
abbrev pub Stays : List Bool → List Bool → Type 0
Stays old new = (p : ℕ) → slice_index_or old p false ≡ true → slice_index_or new p false ≡ true

-- what calls a marked procedure is marked
abbrev pub AreClosedUp : Shape → List Bool → Type 0
AreClosedUp shape marks = (site x p : ℕ) → CallsAt shape site x p → slice_index_or marks p false ≡ true
    → slice_index_or marks (shape.procedure_of x) false ≡ true

-- the procedure of each point before one from which a step kills the bit is marked
abbrev pub MarkKills : Shape → Transfer → List Bool → ℕ → Type 0
MarkKills shape transfer marks until = (x y : ℕ) → x < until → IsEdge shape (Step x y) → transfer.kill x y ≡ true
    → slice_index_or marks (shape.procedure_of x) false ≡ true

-- procedures that are marked keep the bit
abbrev pub AreKept : Shape → Transfer → List Bool → Type 0
AreKept shape transfer kept = (p : ℕ) → slice_index_or kept p false ≡ true → Preserved shape transfer.kill (shape.exit p)

-- the scope of what is left out
abbrev pub left_scope : LeftOut → Scope
left_scope left = record { skipped = λ p. slice_index_or left.skipped.items p false; kept = λ p. slice_index_or left.kept.items p false }

-- What is left out when a bit is asked for at a point.
pub record IsLeftFor (shape : Shape) (transfer : Transfer) (at : ℕ) (left : LeftOut) : Type 0 where
  pub scope : IsScope shape (left_scope left)
  pub into : (left_scope left).skipped (shape.procedure_of at) ≡ false
  pub kept : AreKept shape transfer left.kept.items

-- a question of which this is left out
abbrev pub near_question : Question → LeftOut → Question
near_question question left = record question { scope = left_scope left }
