-- How what is asked of a kept program is answered.
use Rattle.std.specs.Prelude.{◌≡◌, ◌↔◌, ℕ, ◌+◌, ◌*◌, ◌<◌, ◌≤◌, List, Some, length, slice_get, slice_index}
use Rattle.flow_graph.specs.Points.{point_count}
use Rattle.flow_graph.specs.Universes.{bits}
use Rattle.flow_kept.specs.declared.asking.Run.{Run}
use Rattle.flow_queries.specs.declared.query.Query.{Query}
use Rattle.gen_kill.specs.Selections.{Selection, all_bits}
use Rattle.gk_solve.specs.Solved.{AreMeetWords, IsSliceOf, SliceTable}

-- The queries from a number on, in the order of their places, up to the run's end: of its analysis, with words between its first and last.
pub record AreInRun (queries : List Query) (places : List ℕ) (from : ℕ) (run : Run) : Type 0 where
  pub more : from < run.until
  pub most : run.until ≤ length places
  pub ordered : run.first ≤ run.last
  pub each : (j : ℕ) (query : Query) → from ≤ j → j < run.until → slice_get queries (slice_index places j) ≡ Some query
      → (query.analysis ≡ run.analysis) × (run.first ≤ query.word) × (query.word ≤ run.last)
  -- the last word is asked by one of them
  pub last_is : (j : ℕ) × (query : Query) × (j < run.until) × (slice_get queries (slice_index places j) ≡ Some query)
      × (query.analysis ≡ run.analysis) × (query.word ≡ run.last)

-- Of a slice of an analysis's bits lo..hi the words from one up to another were solved last.
pub record AreWordsOf (selection : Selection) (lo hi from until : ℕ) (slice : SliceTable) : Type 0 where
  pub of : IsSliceOf selection slice
  pub lo_is : slice.lo ≡ lo
  pub hi_is : slice.hi ≡ hi
  pub solved : from < until → (slice.from ≡ from) × (slice.until ≡ until) × AreMeetWords selection slice

-- The query is of the analysis, all bits of which are solved, and the bits of its word are among lo..hi.
pub record IsAsked (selection : Selection) (lo hi : ℕ) (query : Query) : Type 0 where
  pub whole : selection ≡ all_bits selection.program query.analysis
  pub point : query.point < point_count selection.program
  pub low : lo ≤ 64 * query.word
  pub high : (k : ℕ) → k < 64 → (64 * query.word + k < hi) ↔ (64 * query.word + k < bits selection.program query.analysis)
