-- When a search is complete: what is found is closed under the clauses of the equations, as far as they are asked for.
use Rattle.std.specs.Prelude.{◌≡◌, ℕ, Bool, true, false}
use Rattle.flow_graph.specs.declared.edge.Edge.TheVariants.{Step}
use Rattle.flow_graph.specs.Paths.{Shape, Transfer, IsEdge, root}
use Rattle.summary_equations.specs.Equations.{CallsAt, ReturnsTo, HasFlag, Reached, Preserved, Generated, IsInSolution}
use Rattle.flow_why.specs.declared.claim.Claim.{Claim}
use Rattle.flow_why.specs.declared.claim.Claim.TheVariants as claim

-- what a claim says of a point
abbrev pub Family : Shape → Transfer → Claim → ℕ → Type 0
Family shape transfer claim.Holds x = IsInSolution shape transfer x
Family shape transfer claim.Generated x = Generated shape transfer x
Family shape transfer claim.Preserved x = Preserved shape transfer.kill x

-- what a search leaves out: the procedures to which it brings no bit by calls, and those that are known to keep it
pub record Scope : Type 0 where
  pub skipped : ℕ → Bool
  pub kept : ℕ → Bool

-- nothing is left out
abbrev pub whole_scope : Scope
whole_scope = record { skipped = λ p. false; kept = λ p. false }

-- A procedure to which the bit is brought has callers to which it is.
abbrev pub IsScope : Shape → Scope → Type 0
IsScope shape scope = (site x p : ℕ) → CallsAt shape site x p → scope.skipped p ≡ false → scope.skipped (shape.procedure_of x) ≡ false

-- What was seen is closed under steps and calls, what follows being found, as far as the scope goes. A callee is looked into where it is
-- called from a point that was seen, unless it is known to keep the bit. `based` says where valid paths lead, and where paths inside
-- procedures do.
pub record IsClosed (shape : Shape) (transfer : Transfer) (scope : Scope) (based seen found : Claim → ℕ → Type 0) : Type 0 where
  pub step : (c : Claim) (x y : ℕ) → IsEdge shape (Step x y) → transfer.kill x y ≡ false → seen c x → found c y
  pub begin : (c : Claim) (site x p : ℕ) → CallsAt shape site x p → scope.kept p ≡ false → seen c x → found claim.Preserved (shape.entry p)
  pub enter : (site x p : ℕ) → CallsAt shape site x p → scope.skipped p ≡ false → seen claim.Holds x → found claim.Holds (shape.entry p)
  pub keep : (c : Claim) (site x p z : ℕ) → CallsAt shape site x p → ReturnsTo shape site p z → scope.kept p ≡ true → seen c x → found c z
  pub pass : (c : Claim) (site x p z : ℕ) → CallsAt shape site x p → ReturnsTo shape site p z
      → seen c x → seen claim.Preserved (shape.exit p) → found c z
  pub generate : (c : Claim) (site x p z : ℕ) → CallsAt shape site x p → ReturnsTo shape site p z
      → based c x → seen claim.Generated (shape.exit p) → found c z

-- What is found has what begins: the bit at the root by the boundary, and behind the steps that generate it.
pub record IsBegun (shape : Shape) (transfer : Transfer) (based found : Claim → ℕ → Type 0) : Type 0 where
  pub boundary : transfer.boundary ≡ true → found claim.Holds (root shape)
  pub gens : (c : Claim) (x y : ℕ) → IsEdge shape (Step x y) → transfer.gen x y ≡ true → based c x → found c y

-- The base is right: it says where valid paths lead, and where paths inside procedures do, in each procedure that is called from there.
pub record IsGround (shape : Shape) (based : Claim → ℕ → Type 0) : Type 0 where
  pub flags : (x : ℕ) → based claim.Holds x → HasFlag shape x
  pub reaches : (x : ℕ) → based claim.Generated x → Reached shape x
  pub none : (x : ℕ) → based claim.Preserved x → ⊥
  pub all_flags : (x : ℕ) → HasFlag shape x → based claim.Holds x
  pub all_reached : (x : ℕ) → Reached shape x → based claim.Generated (shape.entry (shape.procedure_of x)) → based claim.Generated x
  pub begins : (c : Claim) (site x p : ℕ) → CallsAt shape site x p → based c x → based claim.Generated (shape.entry p)

-- the transfer that does nothing, of a bit that is always there
abbrev pub idle_transfer : Transfer
idle_transfer = record { gen = λ x y. false; kill = λ x y. false; boundary = true }

-- nothing is known yet
abbrev pub Nowhere : Claim → ℕ → Type 0
Nowhere c x = ⊥
