-- Values that follow one from another are in the least solution
use Rattle.std.proofs.Common.{ℕ, zero, suc, Bool, ◌<◌, arith}
use Rattle.flow_graph.specs.Paths.{Shape, Transfer}
use Rattle.summary_equations.specs.Equations.{Preserved, preserved_at_entry, preserved_by_call, Generated, generated_by_step}
use Rattle.summary_equations.specs.Equations.{generated_by_callee, generated_before_call, Brought}
use Rattle.summary_equations.specs.Equations.{brought_by_boundary, brought_where_generated, brought_where_preserved}
use Rattle.summary_equations.specs.Laws.{Passes}
use Rattle.solution_bounds.specs.Bounds.{Values, IsLowerBound}
use Rattle.solution_bounds.specs.Witnesses.{PreservesThrough, FollowsPreserved, preserved_follows_at_entry, preserved_follows_by_way}
use Rattle.solution_bounds.specs.Witnesses.{preserved_follows_by_call, FollowsGenerated, generated_follows_by_step, generated_follows_by_way}
use Rattle.solution_bounds.specs.Witnesses.{generated_follows_by_callee, generated_follows_before_call, FollowsBrought, brought_follows_by_boundary, brought_follows_by_tree}
use Rattle.solution_bounds.specs.Witnesses.{brought_follows_where_generated, brought_follows_where_preserved, Ranks, AreJustified}
use Rattle.solution_bounds.specs.Laws.{JustifiedValuesAreBelow}
use Rattle.solution_bounds.proofs.witnesses.Ways.{preserved_reached, generated_reached, brought_entered, preserved_along, generated_along}

-- what follows by one clause from what holds, holds
pub preserved_follows : {shape : Shape} {kill : ℕ → ℕ → Bool} {through : ℕ → Bool} {preserved : ℕ → Type 0} → PreservesThrough shape kill through
    → ((x : ℕ) → preserved x → Preserved shape kill x) → {y : ℕ} → FollowsPreserved shape kill through preserved y → Preserved shape kill y
preserved_follows sound holds (preserved_follows_at_entry p in_range) = preserved_at_entry p in_range
preserved_follows sound holds (preserved_follows_by_way start y before way) = preserved_along sound way (holds start before)
preserved_follows sound holds (preserved_follows_by_call site x p z call return before exit) =
    preserved_by_call site x p z call return (preserved_reached (holds x before)) (preserved_reached (holds _ exit)) (holds x before) (holds _ exit)

pub generated_follows : {shape : Shape} {transfer : Transfer} {through : ℕ → Bool} {preserved generated : ℕ → Type 0}
    → PreservesThrough shape transfer.kill through → ((x : ℕ) → preserved x → Preserved shape transfer.kill x)
    → ((x : ℕ) → generated x → Generated shape transfer x)
    → {y : ℕ} → FollowsGenerated shape transfer through preserved generated y → Generated shape transfer y
generated_follows sound keeps holds (generated_follows_by_step x y edge at_x gens) = generated_by_step x y edge at_x gens
generated_follows sound keeps holds (generated_follows_by_way start y before way) = generated_along sound way (holds start before)
generated_follows sound keeps holds (generated_follows_by_callee site x p z call return at_x exit) =
    generated_by_callee site x p z call return at_x (generated_reached (holds _ exit)) (holds _ exit)
generated_follows sound keeps holds (generated_follows_before_call site x p z call return before exit) =
    generated_before_call site x p z call return (generated_reached (holds x before)) (preserved_reached (keeps _ exit)) (holds x before) (keeps _ exit)

pub brought_follows : {shape : Shape} {transfer : Transfer} {tree : ℕ → Bool} {preserved generated brought : ℕ → Type 0}
    → ((p : ℕ) → Passes tree p → Brought shape transfer p) → ((x : ℕ) → preserved x → Preserved shape transfer.kill x)
    → ((x : ℕ) → generated x → Generated shape transfer x) → ((p : ℕ) → brought p → Brought shape transfer p)
    → {q : ℕ} → FollowsBrought shape transfer tree preserved generated brought q → Brought shape transfer q
brought_follows hangs keeps makes holds (brought_follows_by_boundary has) = brought_by_boundary has
brought_follows hangs keeps makes holds (brought_follows_by_tree p passes) = hangs p passes
brought_follows hangs keeps makes holds (brought_follows_where_generated site x p call at_caller generated) =
    brought_where_generated site x p call at_caller (generated_reached (makes x generated)) (makes x generated)
brought_follows hangs keeps makes holds (brought_follows_where_preserved site x p call before preserved) =
    brought_where_preserved site x p call (brought_entered (holds _ before)) (preserved_reached (keeps x preserved)) (holds _ before) (keeps x preserved)

module _ (shape : Shape) (transfer : Transfer) (through tree : ℕ → Bool) (ranks : Ranks) (values : Values)
    (sound : PreservesThrough shape transfer.kill through) (hangs : (p : ℕ) → Passes tree p → Brought shape transfer p)
    (justified : AreJustified shape transfer through tree ranks values) where
  preserved_below : (n y : ℕ) → ranks.preserved y < n → Passes values.preserved y → Preserved shape transfer.kill y
  preserved_below zero y under passes = absurd (omega arith)
  preserved_below (suc n) y under passes =
      preserved_follows {preserved = λ x. Passes values.preserved x × (ranks.preserved x < ranks.preserved y)} sound
      (λ x both. let smaller = both.1 in preserved_below n x (omega arith) both.0) (justified.preserved y passes)

  all_preserved : (y : ℕ) → Passes values.preserved y → Preserved shape transfer.kill y
  all_preserved y passes = preserved_below (suc (ranks.preserved y)) y (omega arith) passes

  generated_below : (n y : ℕ) → ranks.generated y < n → Passes values.generated y → Generated shape transfer y
  generated_below zero y under passes = absurd (omega arith)
  generated_below (suc n) y under passes =
      generated_follows {generated = λ x. Passes values.generated x × (ranks.generated x < ranks.generated y)} sound all_preserved
      (λ x both. let smaller = both.1 in generated_below n x (omega arith) both.0) (justified.generated y passes)

  all_generated : (y : ℕ) → Passes values.generated y → Generated shape transfer y
  all_generated y passes = generated_below (suc (ranks.generated y)) y (omega arith) passes

  brought_below : (n q : ℕ) → ranks.brought q < n → Passes values.brought q → Brought shape transfer q
  brought_below zero q under passes = absurd (omega arith)
  brought_below (suc n) q under passes =
      brought_follows {brought = λ p. Passes values.brought p × (ranks.brought p < ranks.brought q)} hangs all_preserved all_generated
      (λ p both. let smaller = both.1 in brought_below n p (omega arith) both.0) (justified.brought q passes)

  pub is_below : IsLowerBound shape transfer values
  is_below = record {
    reached = justified.reached;
    preserved = all_preserved;
    generated = all_generated;
    entered = justified.entered;
    brought = λ q passes. brought_below (suc (ranks.brought q)) q (omega arith) passes;
  }

pub justified_values_are_below : JustifiedValuesAreBelow
justified_values_are_below shape transfer through tree ranks values sound hangs justified =
    is_below shape transfer through tree ranks values sound hangs justified
