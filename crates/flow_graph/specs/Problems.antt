-- The forward may problem by which an analysis is solved, what stands for it, and its gen and kill by the points of statements.
use Rattle.std.specs.Prelude.{◌≡◌, ◌<◌, ◌⊎◌, ℕ, true, ◌+◌, ◌*◌, Bool, not, ◌&&◌, nat_lt, if◌then◌else◌}
use Rattle.bit_rows.specs.Words.{has_bit}
use Rattle.tac_program.specs.Programs.{Program}
use Rattle.flow_graph.specs.Analyses.{is_backward, is_must, shape_of, transfer_of}
use Rattle.flow_graph.specs.Paths.{Shape, Transfer}
use Rattle.flow_graph.specs.Reversals.{reversed_shape, reversed_transfer, complemented_transfer}
use Rattle.flow_graph.specs.Transfers.{gens, kills, is_in_boundary}
use Rattle.flow_graph.specs.Universes.{Analysis}

-- the may form of an analysis of a program
pub record MayForm : Type 0 where
  pub program : Program
  pub analysis : Analysis

-- The may form: the forward may problem whose solution, complemented for a must analysis, is the table. A backward
-- analysis has its edges reversed, and the end of `main` as root; a must analysis its sets complemented.
abbrev pub may_shape : Program → Analysis → Shape
may_shape program analysis = if is_backward analysis then reversed_shape (shape_of program) else shape_of program

abbrev pub directed_transfer : Program → Analysis → ℕ → Transfer
directed_transfer program analysis bit =
    if is_backward analysis then reversed_transfer (transfer_of program analysis bit) else transfer_of program analysis bit

abbrev pub may_transfer : Program → Analysis → ℕ → Transfer
may_transfer program analysis bit =
    if is_must analysis then complemented_transfer (directed_transfer program analysis bit) else directed_transfer program analysis bit

-- Whether the step of the statement at a point generates the bit in the may form, and whether it kills it; and whether the
-- boundary has it. (A must analysis is complemented.)
abbrev pub may_gens : MayForm → ℕ → ℕ → Bool
may_gens form point bit =
    if is_must form.analysis then kills form.program form.analysis point bit && not (gens form.program form.analysis point bit)
    else gens form.program form.analysis point bit

abbrev pub may_kills : MayForm → ℕ → ℕ → Bool
may_kills form point bit = if is_must form.analysis then gens form.program form.analysis point bit else kills form.program form.analysis point bit

abbrev pub may_boundary : MayForm → ℕ → Bool
may_boundary form bit =
    if is_must form.analysis then not (is_in_boundary form.program form.analysis bit) else is_in_boundary form.program form.analysis bit

-- A word of a set of bits: its place k is 1 exactly where bit 64 * word + k is there and is in the set.
abbrev pub IsWordOfTest : (ℕ → Bool) → ℕ → ℕ → ℕ → Type 0
IsWordOfTest test bits word value = (k : ℕ) → k < 64 → has_bit value k ≡ (nat_lt (64 * word + k) bits && test (64 * word + k))

-- The step of the statement at a point generates the bit, or kills it.
abbrev pub IsAffected : MayForm → ℕ → ℕ → Type 0
IsAffected form point bit = (may_gens form point bit ≡ true) ⊎ (may_kills form point bit ≡ true)
