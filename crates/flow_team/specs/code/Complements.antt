-- Sets that are complemented: what is in them is taken out, and the rest put in.
use Rattle.std.specs.Prelude.{ℕ, Bool, true, false, not, List, [], ◌++◌, length, map, replicate}
use Rattle.std.specs.List.{range_with_len}
use Rattle.bit_rows.specs.RowSet.{RowSet, contains, set_of}
use Rattle.bit_rows.specs.RowTable.{RowTable, set_at, table}
use Rattle.flow_graph.specs.declared.analysis.Analysis.{Analysis}
use Rattle.flow_team.specs.Tables.{TableFacts}

-- a place that is complemented, or not
abbrev pub complemented : Bool → Bool → Bool
complemented true set = not set
complemented false set = set

-- a point's set, complemented or not
abbrev pub complemented_set : Bool → RowTable → ℕ → RowSet
complemented_set complements rows point = set_of 0 rows.hi (λ b. complemented complements (contains (set_at rows point) b))

-- the flags of a table, and its sets complemented or not
abbrev pub complemented_table : Bool → RowTable → RowTable
complemented_table complements rows = table 0 rows.hi rows.flags (map (complemented_set complements rows) (range_with_len 0 (length rows.flags)))

-- for each point and each bit whether the bit is in the point's set
abbrev pub members_of : RowTable → List (List Bool)
members_of rows = map (λ (s : RowSet). s.members) rows.sets

-- the table of an analysis with these flags and sets from the first point on, and none before it
abbrev pub table_facts : ℕ → Analysis → RowTable → TableFacts
table_facts first analysis rows = record {
  analysis = analysis;
  bits = rows.hi;
  paths = replicate first false ++ rows.flags;
  sets = replicate first [] ++ members_of rows;
}
