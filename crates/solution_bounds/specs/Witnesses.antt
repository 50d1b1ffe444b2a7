-- Lower bounds of the least solution at one bit, by witnesses: ways through procedures, trees of calls, and values with the order in which
-- they follow.
--
-- The clauses of the equations are read forwards: what follows by them is in the least solution (Kildall 1973; summaries of procedures:
-- Reps, Horwitz, Sagiv 1995). Where a fact rests on facts of the same kind, these have a smaller rank, so that nothing rests on itself.
use Rattle.std.specs.Prelude.{◌≡◌, ℕ, Bool, true, false, ◌<◌, ◌&&◌, nat_lt}
use Rattle.flow_graph.specs.declared.edge.Edge.TheVariants.{Step}
use Rattle.flow_graph.specs.Paths.{Shape, Transfer, IsEdge}
use Rattle.summary_equations.specs.Equations.{CallsAt, ReturnsTo, Reached, Preserved, Entered}
use Rattle.summary_equations.specs.Laws.{Passes}
use Rattle.solution_bounds.specs.Bounds.{Values}

-- A way inside a procedure from one point to another: steps that do not kill the bit, and calls of procedures that pass a test.
pub data Way (shape : Shape) (kill : ℕ → ℕ → Bool) (through : ℕ → Bool) (start : ℕ) : ℕ → Type 0 where
  way_begins : Way shape kill through start start
  way_by_step : (x y : ℕ) → IsEdge shape (Step x y) → kill x y ≡ false → Way shape kill through start x → Way shape kill through start y
  way_by_call : (site x procedure z : ℕ) → CallsAt shape site x procedure → ReturnsTo shape site procedure z → Passes through procedure
      → Way shape kill through start x → Way shape kill through start z

-- the procedures that pass preserve the bit at their exits
abbrev pub PreservesThrough : Shape → (ℕ → ℕ → Bool) → (ℕ → Bool) → Type 0
PreservesThrough shape kill through = (procedure : ℕ) → Passes through procedure → Preserved shape kill (shape.exit procedure)

-- the procedures among these of a smaller rank than one
abbrev pub ranked_below : (ℕ → Bool) → (ℕ → ℕ) → ℕ → ℕ → Bool
ranked_below test rank procedure callee = test callee && nat_lt (rank callee) (rank procedure)

-- Each procedure that passes has a way from its entry to its exit, the callees on it being such procedures of smaller rank.
abbrev pub HaveWaysThrough : Shape → (ℕ → ℕ → Bool) → (ℕ → Bool) → (ℕ → ℕ) → Type 0
HaveWaysThrough shape kill through rank =
    (procedure : ℕ) → Passes through procedure
    → (procedure < shape.procedures) × Way shape kill (ranked_below through rank procedure) (shape.entry procedure) (shape.exit procedure)

-- How a procedure hangs in a tree of calls that brings the bit: it is the root, which has the bit by the boundary; it hangs by a call of a
-- procedure of the tree, with a way from that one's entry to the call; or the bit is generated in an entered procedure, with a way
-- from there to a call.
pub data Hangs (shape : Shape) (transfer : Transfer) (through generated : ℕ → Bool) (above : ℕ → Type 0) : ℕ → Type 0 where
  hangs_by_boundary : transfer.boundary ≡ true → Hangs shape transfer through generated above shape.root_procedure
  hangs_by_call : (site x procedure : ℕ) → CallsAt shape site x procedure → above (shape.procedure_of x)
      → Way shape transfer.kill through (shape.entry (shape.procedure_of x)) x → Hangs shape transfer through generated above procedure
  hangs_where_generated : (site x procedure start : ℕ) → CallsAt shape site x procedure → Entered shape (shape.procedure_of x)
      → Passes generated start → Way shape transfer.kill through start x → Hangs shape transfer through generated above procedure

-- each procedure of a tree hangs, the one that it hangs by having a smaller rank
abbrev pub IsTree : Shape → Transfer → (ℕ → Bool) → (ℕ → Bool) → (ℕ → Bool) → (ℕ → ℕ) → Type 0
IsTree shape transfer through generated tree rank =
    (procedure : ℕ) → Passes tree procedure → Hangs shape transfer through generated (λ r. Passes tree r × (rank r < rank procedure)) procedure

-- What follows by one clause from what is preserved: an entry preserves the bit, so does a point behind a way from one that does, and one
-- behind a call whose callee's exit does.
pub data FollowsPreserved (shape : Shape) (kill : ℕ → ℕ → Bool) (through : ℕ → Bool) (preserved : ℕ → Type 0) : ℕ → Type 0 where
  preserved_follows_at_entry : (procedure : ℕ) → procedure < shape.procedures → FollowsPreserved shape kill through preserved (shape.entry procedure)
  preserved_follows_by_way : (start y : ℕ) → preserved start → Way shape kill through start y → FollowsPreserved shape kill through preserved y
  preserved_follows_by_call : (site x procedure z : ℕ) → CallsAt shape site x procedure → ReturnsTo shape site procedure z
      → preserved x → preserved (shape.exit procedure) → FollowsPreserved shape kill through preserved z

-- What follows from what is generated, and what is preserved: a step generates the bit, it is there behind a way, and behind a call
-- whose callee's exit generates or preserves it.
pub data FollowsGenerated (shape : Shape) (transfer : Transfer) (through : ℕ → Bool) (preserved generated : ℕ → Type 0) : ℕ → Type 0 where
  generated_follows_by_step : (x y : ℕ) → IsEdge shape (Step x y) → Reached shape x → transfer.gen x y ≡ true
      → FollowsGenerated shape transfer through preserved generated y
  generated_follows_by_way : (start y : ℕ) → generated start → Way shape transfer.kill through start y
      → FollowsGenerated shape transfer through preserved generated y
  generated_follows_by_callee : (site x procedure z : ℕ) → CallsAt shape site x procedure → ReturnsTo shape site procedure z
      → Reached shape x → generated (shape.exit procedure) → FollowsGenerated shape transfer through preserved generated z
  generated_follows_before_call : (site x procedure z : ℕ) → CallsAt shape site x procedure → ReturnsTo shape site procedure z
      → generated x → preserved (shape.exit procedure) → FollowsGenerated shape transfer through preserved generated z

-- What follows from where the bit is brought: by the boundary, by a tree of calls, and by a call before which it is generated or preserved.
pub data FollowsBrought (shape : Shape) (transfer : Transfer) (tree : ℕ → Bool) (preserved generated brought : ℕ → Type 0) : ℕ → Type 0 where
  brought_follows_by_boundary : transfer.boundary ≡ true → FollowsBrought shape transfer tree preserved generated brought shape.root_procedure
  brought_follows_by_tree : (procedure : ℕ) → Passes tree procedure → FollowsBrought shape transfer tree preserved generated brought procedure
  brought_follows_where_generated : (site x procedure : ℕ) → CallsAt shape site x procedure → Entered shape (shape.procedure_of x)
      → generated x → FollowsBrought shape transfer tree preserved generated brought procedure
  brought_follows_where_preserved : (site x procedure : ℕ) → CallsAt shape site x procedure → brought (shape.procedure_of x)
      → preserved x → FollowsBrought shape transfer tree preserved generated brought procedure

-- the order in which values follow: a rank of what is preserved, generated and brought
pub record Ranks : Type 0 where
  pub preserved : ℕ → ℕ
  pub generated : ℕ → ℕ
  pub brought : ℕ → ℕ

-- Values each of which follows, by one clause, from values that hold, those of its own kind having a smaller rank.
pub record AreJustified (shape : Shape) (transfer : Transfer) (through tree : ℕ → Bool) (ranks : Ranks) (values : Values) : Type 0 where
  pub reached : (x : ℕ) → Passes values.reached x → Reached shape x
  pub entered : (procedure : ℕ) → Passes values.entered procedure → Entered shape procedure
  pub preserved : (y : ℕ) → Passes values.preserved y
      → FollowsPreserved shape transfer.kill through (λ x. Passes values.preserved x × (ranks.preserved x < ranks.preserved y)) y
  pub generated : (y : ℕ) → Passes values.generated y
      → FollowsGenerated shape transfer through (Passes values.preserved) (λ x. Passes values.generated x × (ranks.generated x < ranks.generated y)) y
  pub brought : (q : ℕ) → Passes values.brought q
      → FollowsBrought shape transfer tree (Passes values.preserved) (Passes values.generated)
      (λ p. Passes values.brought p × (ranks.brought p < ranks.brought q)) q
