-- What is told of the words of a problem that were solved last.
use Rattle.std.specs.Prelude.{◌≡◌, ◌↔◌, ℕ, ◌+◌, ◌*◌, ◌<◌, true}
use Rattle.bit_rows.specs.Words.{has_bit}
use Rattle.flow_queries.specs.declared.query.Query.{Query}
use Rattle.flow_team.specs.Sets.{IsInColumns}
use Rattle.gen_kill.specs.Selections.{Selection, all_bits, column_count}
use Rattle.gk_solve.specs.Solved.{IsSliceOf, SliceTable, TellWords}
use Rattle.tac_program.specs.Programs.{Program}

-- Of all columns of a problem, the words from one up to another were solved last: they tell the may form's sets.
pub record AreWordsOf (selection : Selection) (from until : ℕ) (slice : SliceTable) : Type 0 where
  pub of : IsSliceOf selection slice
  pub lo : slice.lo ≡ 0
  pub hi : slice.hi ≡ column_count selection
  pub solved : from < until → (slice.from ≡ from) × (slice.until ≡ until) × TellWords (IsInColumns selection) slice

-- The word has exactly the bits that a query asks for and that are in the may form's set at its point.
abbrev pub IsAskedWord : Program → Query → ℕ → Type 0
IsAskedWord program query word = (k : ℕ) → k < 64
    → (has_bit word k ≡ true) ↔ ((has_bit query.bits k ≡ true) × IsInColumns (all_bits program query.analysis) query.point (64 * query.word + k))
