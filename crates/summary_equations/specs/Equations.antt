-- The summary equations of a forward may problem and their least solution, one bit at a time.
--
-- For each point: whether it is reached inside its procedure, and whether the bit is generated, or preserved, on the way there from
-- the procedure's entry. For each procedure: whether it is entered, and whether the bit is brought to its entry. The least
-- solution is what follows from the equations' clauses and from nothing else, so each family has a constructor for each of
-- its clauses (Kildall 1973; summaries of procedures: Reps, Horwitz, Sagiv 1995). The families are read from the top: no
-- one speaks of a later one.
use Rattle.std.specs.Prelude.{◌≡◌, ℕ, Bool, true, false, ◌<◌, ◌⊎◌}
use Rattle.flow_graph.specs.declared.edge.Edge.TheVariants.{Step, Call, Ret}
use Rattle.flow_graph.specs.Paths.{Shape, Transfer, IsEdge}

-- a call of a procedure at a point
abbrev pub CallsAt : Shape → ℕ → ℕ → ℕ → Type 0
CallsAt shape site point procedure = (procedure < shape.procedures) × IsEdge shape (Call site point (shape.entry procedure))

-- the procedure's return to that site ends at a point
abbrev pub ReturnsTo : Shape → ℕ → ℕ → ℕ → Type 0
ReturnsTo shape site procedure point = IsEdge shape (Ret site (shape.exit procedure) point)

-- Some matched path leads to the point from its procedure's entry: an entry is reached, a step leads on, and so does a call
-- whose callee's exit is reached.
pub data Reached (shape : Shape) : ℕ → Type 0 where
  entry_is_reached : (procedure : ℕ) → procedure < shape.procedures → Reached shape (shape.entry procedure)
  reached_by_step : (x y : ℕ) → IsEdge shape (Step x y) → Reached shape x → Reached shape y
  reached_by_call : (site x procedure z : ℕ) → CallsAt shape site x procedure → ReturnsTo shape site procedure z
      → Reached shape x → Reached shape (shape.exit procedure) → Reached shape z

-- Some such path preserves the bit: at an entry everything is preserved, a step keeps what it does not kill, a call what its callee
-- keeps.
pub data Preserved (shape : Shape) (kill : ℕ → ℕ → Bool) : ℕ → Type 0 where
  preserved_at_entry : (procedure : ℕ) → procedure < shape.procedures → Preserved shape kill (shape.entry procedure)
  preserved_by_step : (x y : ℕ) → IsEdge shape (Step x y) → Reached shape x → Preserved shape kill x → kill x y ≡ false → Preserved shape kill y
  preserved_by_call : (site x procedure z : ℕ) → CallsAt shape site x procedure → ReturnsTo shape site procedure z
      → Reached shape x → Reached shape (shape.exit procedure)
      → Preserved shape kill x → Preserved shape kill (shape.exit procedure) → Preserved shape kill z

-- Some such path generates the bit: gen union (X minus kill) at a step, and after a call what the callee generates, or what is generated
-- before the call and preserved by the callee.
pub data Generated (shape : Shape) (transfer : Transfer) : ℕ → Type 0 where
  generated_by_step : (x y : ℕ) → IsEdge shape (Step x y) → Reached shape x → transfer.gen x y ≡ true → Generated shape transfer y
  generated_before_step : (x y : ℕ) → IsEdge shape (Step x y) → Reached shape x → Generated shape transfer x → transfer.kill x y ≡ false → Generated shape transfer y
  generated_by_callee : (site x procedure z : ℕ) → CallsAt shape site x procedure → ReturnsTo shape site procedure z
      → Reached shape x → Reached shape (shape.exit procedure)
      → Generated shape transfer (shape.exit procedure) → Generated shape transfer z
  generated_before_call : (site x procedure z : ℕ) → CallsAt shape site x procedure → ReturnsTo shape site procedure z
      → Reached shape x → Reached shape (shape.exit procedure)
      → Generated shape transfer x → Preserved shape transfer.kill (shape.exit procedure) → Generated shape transfer z

-- Some valid path enters the procedure: the root's is entered, and one that an entered procedure calls at a reached point.
pub data Entered (shape : Shape) : ℕ → Type 0 where
  root_is_entered : Entered shape shape.root_procedure
  entered_by_call : (site x procedure : ℕ) → CallsAt shape site x procedure
      → Entered shape (shape.procedure_of x) → Reached shape x → Entered shape procedure

-- Some valid path brings the bit to the procedure's entry: the boundary to the root's, and a call what is generated before it in
-- its procedure, or what is brought to that procedure and preserved up to the call.
pub data Brought (shape : Shape) (transfer : Transfer) : ℕ → Type 0 where
  brought_by_boundary : transfer.boundary ≡ true → Brought shape transfer shape.root_procedure
  brought_where_generated : (site x procedure : ℕ) → CallsAt shape site x procedure
      → Entered shape (shape.procedure_of x) → Reached shape x → Generated shape transfer x → Brought shape transfer procedure
  brought_where_preserved : (site x procedure : ℕ) → CallsAt shape site x procedure
      → Entered shape (shape.procedure_of x) → Reached shape x
      → Brought shape transfer (shape.procedure_of x) → Preserved shape transfer.kill x → Brought shape transfer procedure

-- the flag of a point: its procedure is entered and it is reached there
abbrev pub HasFlag : Shape → ℕ → Type 0
HasFlag shape point = Entered shape (shape.procedure_of point) × Reached shape point

-- The bit is in the set of a point: where the flag holds, what is generated there, or brought to its procedure and preserved.
abbrev pub IsInSolution : Shape → Transfer → ℕ → Type 0
IsInSolution shape transfer point =
    HasFlag shape point
    × (Generated shape transfer point ⊎ (Brought shape transfer (shape.procedure_of point) × Preserved shape transfer.kill point))

-- Closed under the clauses: any families for which the equations hold, the sides of each clause read as "includes".
pub record IsClosedReached (shape : Shape) (reached : ℕ → Type 0) : Type 0 where
  pub entry : (procedure : ℕ) → procedure < shape.procedures → reached (shape.entry procedure)
  pub step : (x y : ℕ) → IsEdge shape (Step x y) → reached x → reached y
  pub call : (site x procedure z : ℕ) → CallsAt shape site x procedure → ReturnsTo shape site procedure z
      → reached x → reached (shape.exit procedure) → reached z

pub record IsClosedPreserved (shape : Shape) (kill : ℕ → ℕ → Bool) (reached preserved : ℕ → Type 0) : Type 0 where
  pub entry : (procedure : ℕ) → procedure < shape.procedures → preserved (shape.entry procedure)
  pub step : (x y : ℕ) → IsEdge shape (Step x y) → reached x → preserved x → kill x y ≡ false → preserved y
  pub call : (site x procedure z : ℕ) → CallsAt shape site x procedure → ReturnsTo shape site procedure z
      → reached x → reached (shape.exit procedure) → preserved x → preserved (shape.exit procedure) → preserved z

pub record IsClosedGenerated (shape : Shape) (transfer : Transfer) (reached preserved generated : ℕ → Type 0) : Type 0 where
  pub by_step : (x y : ℕ) → IsEdge shape (Step x y) → reached x → transfer.gen x y ≡ true → generated y
  pub before_step : (x y : ℕ) → IsEdge shape (Step x y) → reached x → generated x → transfer.kill x y ≡ false → generated y
  pub by_callee : (site x procedure z : ℕ) → CallsAt shape site x procedure → ReturnsTo shape site procedure z
      → reached x → reached (shape.exit procedure) → generated (shape.exit procedure) → generated z
  pub before_call : (site x procedure z : ℕ) → CallsAt shape site x procedure → ReturnsTo shape site procedure z
      → reached x → reached (shape.exit procedure) → generated x → preserved (shape.exit procedure) → generated z

pub record IsClosedEntered (shape : Shape) (reached entered : ℕ → Type 0) : Type 0 where
  pub root : entered shape.root_procedure
  pub call : (site x procedure : ℕ) → CallsAt shape site x procedure → entered (shape.procedure_of x) → reached x → entered procedure

pub record IsClosedBrought (shape : Shape) (transfer : Transfer) (reached preserved generated entered brought : ℕ → Type 0) : Type 0 where
  pub boundary : transfer.boundary ≡ true → brought shape.root_procedure
  pub where_generated : (site x procedure : ℕ) → CallsAt shape site x procedure
      → entered (shape.procedure_of x) → reached x → generated x → brought procedure
  pub where_preserved : (site x procedure : ℕ) → CallsAt shape site x procedure
      → entered (shape.procedure_of x) → reached x → brought (shape.procedure_of x) → preserved x → brought procedure
