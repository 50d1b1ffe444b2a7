-- How a slice's tables stand for its words.
use Rattle.std.specs.Prelude.{◌≡◌, ◌≤◌, ◌+◌, ◌*◌, length}
use Rattle.gk_solve.specs.Solved.{SliceTable}
use Rattle.gk_solve.specs.Tables.Widths.{AreTablesOf, generated_words, width_of}
use Rattle.gk_solve.specs.declared.slice_words.SliceWords.TheInside.{Inside}

abbrev pub view_of : Inside → SliceTable
view_of slice = record {
  points = length slice.dirty;
  procedures = length slice.callers;
  variables = slice.variables;
  lo = slice.lo;
  hi = slice.hi;
  from = slice.from;
  until = slice.until;
  words = generated_words slice.tables;
}

-- The tables are of the slice, and no more words were solved than they hold.
pub record IsSliceWords (slice : Inside) : Type 0 where
  pub tables : AreTablesOf (length slice.dirty) (length slice.callers) slice.lo slice.hi slice.tables
  pub ordered : slice.from ≤ slice.until
  pub few : slice.until ≤ slice.from + width_of slice.tables
  pub rows : length slice.dependence.words.items ≡ slice.variables * slice.dependence.width
  pub row_words : slice.dependence.width ≡ width_of slice.tables
