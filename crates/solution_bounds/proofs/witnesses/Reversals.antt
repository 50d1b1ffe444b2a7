-- Ways of the reversed problem are ways, read from their ends
use Rattle.std.proofs.Common.{ℕ, Bool}
use Rattle.flow_graph.specs.declared.edge.Edge.TheVariants.{Step, Call, Ret}
use Rattle.flow_graph.specs.Paths.{Shape, Transfer}
use Rattle.flow_graph.specs.Reversals.{reversed_shape, reversed_transfer}
use Rattle.flow_graph.proofs.paths.Reversal.{edge_back}
use Rattle.solution_bounds.specs.Witnesses.{Way, way_begins, way_by_step, way_by_call}
use Rattle.solution_bounds.specs.Laws.{WaysReverse}

pub way_joined : {shape : Shape} {kill : ℕ → ℕ → Bool} {through : ℕ → Bool} {start middle x : ℕ} → Way shape kill through start middle
    → Way shape kill through middle x → Way shape kill through start x
way_joined front way_begins = front
way_joined front (way_by_step x y edge unkilled way) = way_by_step x y edge unkilled (way_joined front way)
way_joined front (way_by_call site x p z call return passes way) = way_by_call site x p z call return passes (way_joined front way)

pub way_back : (shape : Shape) (transfer : Transfer) (through : ℕ → Bool) (start : ℕ) {finish : ℕ}
    → Way (reversed_shape shape) (reversed_transfer transfer).kill through start finish → Way shape transfer.kill through finish start
way_back shape transfer through start way_begins = way_begins
way_back shape transfer through start (way_by_step x y edge unkilled way) =
    way_joined (way_by_step y x (edge_back shape (Step x y) edge) unkilled way_begins) (way_back shape transfer through start way)
way_back shape transfer through start (way_by_call site x p z call return passes way) =
    way_joined
    (way_by_call site z p x (call.0, edge_back shape (Ret site (shape.entry p) z) return) (edge_back shape (Call site x (shape.exit p)) call.1) passes way_begins)
    (way_back shape transfer through start way)

pub ways_reverse : WaysReverse
ways_reverse shape transfer through rank = (
  λ start finish way. way_back shape transfer through start way,
  λ ways p passes. ((ways p passes).0, way_back shape transfer _ _ (ways p passes).1),
)
