-- The 64 places of a word, by point or procedure: which bits of words are set, and what closes them under an edge.
use Rattle.std.specs.Prelude.{◌≡◌, ◌<◌, ◌⊎◌, ℕ, Bool, true, false, List, ◌&&◌, nat_lt, if◌then◌else◌}
use Rattle.bit_rows.specs.Words.{has_bit}
use Rattle.flow_graph.specs.declared.edge.Edge.{Edge}
use Rattle.flow_graph.specs.declared.edge.Edge.TheVariants.{Step, Call, Ret}
use Rattle.flow_graph.specs.Paths.{Shape, Transfer}
use Rattle.gen_kill.specs.Selections.{Selection, column_boundary, column_count, column_gens, column_kills}
use Rattle.summary_equations.specs.Equations.{Preserved, Generated, Brought}
use Rattle.flow_links.specs.Shapes.{after_site}
use Rattle.gk_solve.specs.Tables.Flags.{IsFlagged}

-- the point of a step's statement: its beginning in a program's own direction, its end where it is reversed
abbrev pub step_statement : Bool → ℕ → ℕ → ℕ
step_statement backward x y = if backward then y else x

-- the step of the statement at a point generates a bit that is there
unfoldable pub place_gens : Selection → ℕ → ℕ → Bool
place_gens form point bit = nat_lt bit (column_count form) && column_gens form point bit

-- it kills a bit that is there
unfoldable pub place_kills : Selection → ℕ → ℕ → Bool
place_kills form point bit = nat_lt bit (column_count form) && column_kills form point bit

-- the boundary has a bit that is there
unfoldable pub place_boundary : Selection → ℕ → Bool
place_boundary form bit = nat_lt bit (column_count form) && column_boundary form bit

-- A place's transfer: that of the bit it stands for, and nothing past the last bit.
abbrev pub place_transfer : Bool → Selection → ℕ → Transfer
place_transfer backward form bit = record {
  gen = λ x y. place_gens form (step_statement backward x y) bit;
  kill = λ x y. place_kills form (step_statement backward x y) bit;
  boundary = place_boundary form bit;
}

-- bit k of the word of a point, or of a procedure, is set
abbrev pub HasBit : (ℕ → ℕ) → ℕ → ℕ → Type 0
HasBit words x k = has_bit (words x) k ≡ true

-- no bit is taken back
abbrev pub WordsGrow : (ℕ → ℕ) → (ℕ → ℕ) → Type 0
WordsGrow old new = (x k : ℕ) → HasBit old x k → HasBit new x k

-- each bit that is set is of its family
abbrev pub AreSoundWords : (ℕ → ℕ → Type 0) → (ℕ → ℕ) → Type 0
AreSoundWords Family words = (x k : ℕ) → k < 64 → HasBit words x k → Family k x

-- what is preserved is closed under one edge
abbrev pub IsPreserveClosedAt : Shape → Bool → (ℕ → Transfer) → List Bool → (ℕ → ℕ) → Edge → Type 0
IsPreserveClosedAt shape backward transfer paths preserved (Step x y) =
    (k : ℕ) → k < 64 → IsFlagged paths x → HasBit preserved x k → (transfer k).kill x y ≡ false → HasBit preserved y k
IsPreserveClosedAt shape backward transfer paths preserved (Call site x y) =
    let exit = shape.exit (shape.procedure_of y) in
    (k : ℕ) → k < 64 → IsFlagged paths x → IsFlagged paths exit
    → HasBit preserved x k → HasBit preserved exit k → HasBit preserved (after_site backward site) k
IsPreserveClosedAt shape backward transfer paths preserved (Ret site x y) = Unit {0}

-- what is generated is closed under one edge
abbrev pub IsMakeClosedAt : Shape → Bool → (ℕ → Transfer) → List Bool → (ℕ → ℕ) → (ℕ → ℕ) → Edge → Type 0
IsMakeClosedAt shape backward transfer paths preserved generated (Step x y) =
    (k : ℕ) → k < 64 → IsFlagged paths x
    → (((transfer k).gen x y ≡ true) ⊎ (HasBit generated x k × ((transfer k).kill x y ≡ false))) → HasBit generated y k
IsMakeClosedAt shape backward transfer paths preserved generated (Call site x y) =
    let exit = shape.exit (shape.procedure_of y) in
    (k : ℕ) → k < 64 → IsFlagged paths x → IsFlagged paths exit
    → (HasBit generated exit k ⊎ (HasBit generated x k × HasBit preserved exit k)) → HasBit generated (after_site backward site) k
IsMakeClosedAt shape backward transfer paths preserved generated (Ret site x y) = Unit {0}

-- what is brought to procedures is closed under one edge
abbrev pub IsBringClosedAt : Shape → List Bool → (ℕ → ℕ) → (ℕ → ℕ) → (ℕ → ℕ) → Edge → Type 0
IsBringClosedAt shape paths preserved generated brought (Step x y) = Unit {0}
IsBringClosedAt shape paths preserved generated brought (Call site x y) =
    (k : ℕ) → k < 64 → IsFlagged paths x
    → (HasBit generated x k ⊎ (HasBit brought (shape.procedure_of x) k × HasBit preserved x k)) → HasBit brought (shape.procedure_of y) k
IsBringClosedAt shape paths preserved generated brought (Ret site x y) = Unit {0}

-- bit k is preserved up to a point
abbrev pub IsPreserved : Shape → (ℕ → Transfer) → ℕ → ℕ → Type 0
IsPreserved shape transfer k x = Preserved shape (transfer k).kill x

-- bit k is generated before a point
abbrev pub IsGenerated : Shape → (ℕ → Transfer) → ℕ → ℕ → Type 0
IsGenerated shape transfer k x = Generated shape (transfer k) x

-- bit k is brought to a procedure
abbrev pub IsBrought : Shape → (ℕ → Transfer) → ℕ → ℕ → Type 0
IsBrought shape transfer k procedure = Brought shape (transfer k) procedure
