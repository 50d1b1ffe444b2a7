-- Flags of points and of procedures.
use Rattle.std.specs.Prelude.{◌≡◌, ◌↔◌, ℕ, Bool, true, false, List, length, slice_index_or, sum_by, if◌then◌else◌}
use Rattle.flow_graph.specs.declared.edge.Edge.{Edge}
use Rattle.flow_graph.specs.declared.edge.Edge.TheVariants.{Step, Call, Ret}
use Rattle.flow_graph.specs.Paths.{Shape, IsEdge, source_of}
use Rattle.summary_equations.specs.Equations.{Reached, Entered, HasFlag}
use Rattle.flow_links.specs.Shapes.{after_site}
use Rattle.gk_solve.specs.Tables.Visits.{IsSettled, Spreads}
use Rattle.flow_links.specs.declared.link.CallLink.{CallLink}
use Rattle.flow_links.specs.declared.link.SiteLink.{SiteLink}

-- the flag of a point, or of a procedure, is set
abbrev pub IsFlagged : List Bool → ℕ → Type 0
IsFlagged flags x = slice_index_or flags x false ≡ true

-- how many flags are not set
abbrev pub unset_flags : List Bool → ℕ
unset_flags flags = sum_by (λ flag. if flag then 0 else 1) flags

-- no flag is taken back
abbrev pub FlagsGrow : List Bool → List Bool → Type 0
FlagsGrow old new = (x : ℕ) → IsFlagged old x → IsFlagged new x

-- what is flagged is of a family
abbrev pub AreSound : (ℕ → Type 0) → List Bool → Type 0
AreSound Family flags = (x : ℕ) → IsFlagged flags x → Family x

-- a flag is set exactly where the family holds
abbrev pub AreExactly : (ℕ → Type 0) → List Bool → Type 0
AreExactly Family flags = (x : ℕ) → IsFlagged flags x ↔ Family x

-- One flag for each point, set where its procedure is entered and it is reached there.
pub record ArePathFlags (shape : Shape) (points : ℕ) (flags : List Bool) : Type 0 where
  pub count : length flags ≡ points
  pub exact : AreExactly (HasFlag shape) flags

-- the flags of points are closed under one edge
abbrev pub IsReachClosedAt : Shape → Bool → List Bool → Edge → Type 0
IsReachClosedAt shape backward flags (Step x y) = IsFlagged flags x → IsFlagged flags y
IsReachClosedAt shape backward flags (Call site x y) =
    IsFlagged flags x → IsFlagged flags (shape.exit (shape.procedure_of y)) → IsFlagged flags (after_site backward site)
IsReachClosedAt shape backward flags (Ret site x y) = Unit {0}

-- the flags of procedures are closed under one edge, by the flags of points
abbrev pub IsEntryClosedAt : Shape → List Bool → List Bool → Edge → Type 0
IsEntryClosedAt shape reached flags (Step x y) = Unit {0}
IsEntryClosedAt shape reached flags (Call site x y) =
    IsFlagged flags (shape.procedure_of x) → IsFlagged reached x → IsFlagged flags (shape.procedure_of y)
IsEntryClosedAt shape reached flags (Ret site x y) = Unit {0}

-- the procedure that an edge leaves
abbrev pub source_procedure : Shape → Edge → ℕ
source_procedure shape edge = shape.procedure_of (source_of edge)

-- a part of a visit of a point sets flags of points
abbrev pub ReachSpreads : Shape → Bool → List Bool → List Bool → List Bool → List Bool → Type 0
ReachSpreads shape backward = Spreads unset_flags FlagsGrow (IsSettled (IsReachClosedAt shape backward) source_of) (AreSound (Reached shape)) shape

-- a part of a visit of a procedure sets flags of procedures
abbrev pub EntrySpreads : Shape → List Bool → List Bool → List Bool → List Bool → List Bool → Type 0
EntrySpreads shape reached =
    Spreads unset_flags FlagsGrow (IsSettled (IsEntryClosedAt shape reached) (source_procedure shape)) (AreSound (Entered shape)) shape

-- each call of which a link tells is settled
pub record IsCallSettled (shape : Shape) (backward : Bool) (at : ℕ) (flags dirty : List Bool) (link : CallLink) : Type 0 where
  pub settled : (site y : ℕ) → IsEdge shape (Call site at y) → link.exit ≡ shape.exit (shape.procedure_of y) → link.after ≡ after_site backward site
      → IsSettled (IsReachClosedAt shape backward) source_of flags dirty (Call site at y)

-- each call of which a site tells is settled
pub record IsSiteSettled (shape : Shape) (reached flags dirty : List Bool) (link : SiteLink) : Type 0 where
  pub settled : (site x y : ℕ) → IsEdge shape (Call site x y) → link.point ≡ x → link.callee ≡ shape.procedure_of y
      → IsSettled (IsEntryClosedAt shape reached) (source_procedure shape) flags dirty (Call site x y)
