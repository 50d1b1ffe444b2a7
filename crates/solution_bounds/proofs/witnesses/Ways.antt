-- Ways carry what holds where they begin; ways through procedures and trees of calls are witnesses of the least solution
use Rattle.std.proofs.Common.{ℕ, zero, suc, Bool, ◌<◌, inr, arith}
use Rattle.std.proofs.lemmas.Bool.{and_parts, ltb-true}
use Rattle.flow_graph.specs.Paths.{Shape, Transfer}
use Rattle.flow_graph.specs.WellFormed.{IsWellFormed}
use Rattle.summary_equations.specs.Equations.{Reached, entry_is_reached, reached_by_step, reached_by_call, Preserved, preserved_at_entry, preserved_by_step}
use Rattle.summary_equations.specs.Equations.{preserved_by_call, Generated, generated_by_step, generated_before_step, generated_by_callee}
use Rattle.summary_equations.specs.Equations.{generated_before_call, Entered, root_is_entered, entered_by_call, Brought, brought_by_boundary}
use Rattle.summary_equations.specs.Equations.{brought_where_generated, brought_where_preserved}
use Rattle.summary_equations.specs.Laws.{Passes}
use Rattle.solution_bounds.specs.Witnesses.{Way, way_begins, way_by_step, way_by_call, PreservesThrough, Hangs}
use Rattle.solution_bounds.specs.Witnesses.{hangs_by_boundary, hangs_by_call, hangs_where_generated, IsTree}
use Rattle.solution_bounds.specs.Laws.{WaysCarry, WaysPreserve, TreesBring, TreesReachPoints}

-- what is preserved or generated at a point is reached there, and a procedure to which the bit is brought is entered
pub preserved_reached : {shape : Shape} {kill : ℕ → ℕ → Bool} {x : ℕ} → Preserved shape kill x → Reached shape x
preserved_reached (preserved_at_entry p in_range) = entry_is_reached p in_range
preserved_reached (preserved_by_step x y edge at_x before unkilled) = reached_by_step x y edge at_x
preserved_reached (preserved_by_call site x p z call return at_x at_exit before through) = reached_by_call site x p z call return at_x at_exit

pub generated_reached : {shape : Shape} {transfer : Transfer} {x : ℕ} → Generated shape transfer x → Reached shape x
generated_reached (generated_by_step x y edge at_x gens) = reached_by_step x y edge at_x
generated_reached (generated_before_step x y edge at_x before unkilled) = reached_by_step x y edge at_x
generated_reached (generated_by_callee site x p z call return at_x at_exit through) = reached_by_call site x p z call return at_x at_exit
generated_reached (generated_before_call site x p z call return at_x at_exit before through) = reached_by_call site x p z call return at_x at_exit

pub brought_entered : {shape : Shape} {transfer : Transfer} {procedure : ℕ} → Brought shape transfer procedure → Entered shape procedure
brought_entered (brought_by_boundary has) = root_is_entered
brought_entered (brought_where_generated site x p call caller at_x generated) = entered_by_call site x p call caller at_x
brought_entered (brought_where_preserved site x p call caller at_x before preserved) = entered_by_call site x p call caller at_x

pub reached_along : {shape : Shape} {kill : ℕ → ℕ → Bool} {through : ℕ → Bool} {start x : ℕ} → PreservesThrough shape kill through
    → Way shape kill through start x → Reached shape start → Reached shape x
reached_along sound way_begins at_start = at_start
reached_along sound (way_by_step x y edge unkilled way) at_start = reached_by_step x y edge (reached_along sound way at_start)
reached_along sound (way_by_call site x p z call return passes way) at_start =
    reached_by_call site x p z call return (reached_along sound way at_start) (preserved_reached (sound p passes))

pub preserved_along : {shape : Shape} {kill : ℕ → ℕ → Bool} {through : ℕ → Bool} {start x : ℕ} → PreservesThrough shape kill through
    → Way shape kill through start x → Preserved shape kill start → Preserved shape kill x
preserved_along sound way_begins at_start = at_start
preserved_along sound (way_by_step x y edge unkilled way) at_start =
    let before = preserved_along sound way at_start in
    preserved_by_step x y edge (preserved_reached before) before unkilled
preserved_along sound (way_by_call site x p z call return passes way) at_start =
    let before = preserved_along sound way at_start in
    preserved_by_call site x p z call return (preserved_reached before) (preserved_reached (sound p passes)) before (sound p passes)

pub generated_along : {shape : Shape} {transfer : Transfer} {through : ℕ → Bool} {start x : ℕ} → PreservesThrough shape transfer.kill through
    → Way shape transfer.kill through start x → Generated shape transfer start → Generated shape transfer x
generated_along sound way_begins at_start = at_start
generated_along sound (way_by_step x y edge unkilled way) at_start =
    let before = generated_along sound way at_start in
    generated_before_step x y edge (generated_reached before) before unkilled
generated_along sound (way_by_call site x p z call return passes way) at_start =
    let before = generated_along sound way at_start in
    generated_before_call site x p z call return (generated_reached before) (preserved_reached (sound p passes)) before (sound p passes)

pub ways_carry : WaysCarry
ways_carry shape transfer through start point sound way = (reached_along sound way, preserved_along sound way, generated_along sound way)

pub ways_preserve : WaysPreserve
ways_preserve shape kill through rank ways procedure passes = below (suc (rank procedure)) procedure (omega arith) passes
  where
    below : (n p : ℕ) → rank p < n → Passes through p → Preserved shape kill (shape.exit p)
    below zero p under passes = absurd (omega arith)
    below (suc n) p under passes = preserved_along (λ q both.
        let (has, smaller) = and_parts (through q) _ both in
        let is_smaller : rank q < rank p = ltb-true _ _ smaller in
        below n q (omega arith) has)
        (ways p passes).1 (preserved_at_entry p (ways p passes).0)

module _ (shape : Shape) (transfer : Transfer) (through generated : ℕ → Bool) (well : IsWellFormed shape)
    (sound : PreservesThrough shape transfer.kill through) (holds : (x : ℕ) → Passes generated x → Generated shape transfer x) where
  pub brought_hanging : {above : ℕ → Type 0} → ((procedure : ℕ) → above procedure → (procedure < shape.procedures) × Brought shape transfer procedure)
      → {procedure : ℕ} → Hangs shape transfer through generated above procedure → (procedure < shape.procedures) × Brought shape transfer procedure
  brought_hanging known (hangs_by_boundary has) = (well.root_in_range, brought_by_boundary has)
  brought_hanging known (hangs_by_call site x p call at_caller way) =
      let (in_range, brought) = known (shape.procedure_of x) at_caller in
      let preserved = preserved_along sound way (preserved_at_entry (shape.procedure_of x) in_range) in
      (call.0, brought_where_preserved site x p call (brought_entered brought) (preserved_reached preserved) brought preserved)
  brought_hanging known (hangs_where_generated site x p start call at_caller passes way) =
      let at_x = generated_along sound way (holds start passes) in
      (call.0, brought_where_generated site x p call at_caller (generated_reached at_x) at_x)

  module _ (tree : ℕ → Bool) (rank : ℕ → ℕ) (is_tree : IsTree shape transfer through generated tree rank) where
    brought_ranked : (n p : ℕ) → rank p < n → Passes tree p → (p < shape.procedures) × Brought shape transfer p
    brought_ranked zero p under passes = absurd (omega arith)
    brought_ranked (suc n) p under passes =
        brought_hanging {above = λ r. Passes tree r × (rank r < rank p)}
        (λ r both. let smaller = both.1 in brought_ranked n r (omega arith) both.0) (is_tree p passes)

    pub brought_in_tree : (p : ℕ) → Passes tree p → (p < shape.procedures) × Brought shape transfer p
    brought_in_tree p passes = brought_ranked (suc (rank p)) p (omega arith) passes

pub trees_bring : TreesBring
trees_bring shape transfer through generated tree rank well sound holds is_tree procedure passes =
    let brought = (brought_in_tree shape transfer through generated well sound holds tree rank is_tree procedure passes).1 in
    (brought_entered brought, brought)

pub trees_reach_points : TreesReachPoints
trees_reach_points shape transfer through generated tree rank point well sound holds is_tree passes way =
    let (in_range, brought) = brought_in_tree shape transfer through generated well sound holds tree rank is_tree _ passes in
    let preserved = preserved_along sound way (preserved_at_entry _ in_range) in
    ((brought_entered brought, preserved_reached preserved), inr (brought, preserved))
