-- Trees of returns carry what is generated to their point, and from there trees of calls bring it on
use Rattle.std.proofs.Common.{ℕ, zero, suc, Bool, ◌<◌, nat_eq, subst, arith}
use Rattle.std.proofs.lemmas.Bool.{eqb-true}
use Rattle.flow_graph.specs.Paths.{Shape, Transfer}
use Rattle.summary_equations.specs.Equations.{Generated, generated_by_callee}
use Rattle.summary_equations.specs.Laws.{Passes}
use Rattle.solution_bounds.specs.Turns.{Returns, returns_at_once, returns_by_caller}
use Rattle.solution_bounds.specs.Witnesses.{PreservesThrough}
use Rattle.solution_bounds.specs.Laws.{ReturnTreesCarry, TurnsBring}
use Rattle.solution_bounds.proofs.witnesses.Ways.{generated_reached, generated_along, brought_in_tree}

pub returned : {shape : Shape} {transfer : Transfer} {through : ℕ → Bool} {point : ℕ} {above : ℕ → Type 0} → PreservesThrough shape transfer.kill through
    → ((r : ℕ) → above r → Generated shape transfer (shape.exit r) → Generated shape transfer point)
    → {p : ℕ} → Returns shape transfer.kill through point above p → Generated shape transfer (shape.exit p) → Generated shape transfer point
returned sound further (returns_at_once site x p z call return at_x way) generated =
    generated_along sound way (generated_by_callee site x p z call return at_x (generated_reached generated) generated)
returned sound further (returns_by_caller site x p z call return at_x caller way) generated =
    further _ caller (generated_along sound way (generated_by_callee site x p z call return at_x (generated_reached generated) generated))

pub return_trees_carry : ReturnTreesCarry
return_trees_carry shape transfer through point tree rank sound is_tree procedure passes generated =
    below (suc (rank procedure)) procedure (omega arith) passes generated
  where
    below : (n p : ℕ) → rank p < n → Passes tree p → Generated shape transfer (shape.exit p) → Generated shape transfer point
    below zero p under has at_exit = absurd (omega arith)
    below (suc n) p under has at_exit = returned {above = λ r. Passes tree r × (rank r < rank p)} sound
        (λ r both at_caller. let smaller = both.1 in below n r (omega arith) both.0 at_caller) (is_tree p has) at_exit

pub turns_bring : TurnsBring
turns_bring shape transfer through point returning returning_rank tree rank well sound is_return_tree is_tree source procedure returns generated passes =
    let at_point = return_trees_carry shape transfer through point returning returning_rank sound is_return_tree source returns generated in
    (brought_in_tree shape transfer through (nat_eq point) well sound
    (λ x same. subst (λ y. Generated shape transfer y) (eqb-true point x same) at_point) tree rank is_tree procedure passes).1
