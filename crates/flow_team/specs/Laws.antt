-- That a program has one table of an analysis.
use Rattle.std.specs.Prelude.{◌≡◌, ℕ, ◌<◌}
use Rattle.flow_graph.specs.Points.{point_count}
use Rattle.flow_graph.specs.Universes.{bits}
use Rattle.tac_program.specs.Programs.{Program}
use Rattle.flow_team.specs.Tables.{TableFacts, IsTableOf, facts_of}

-- Two tables of one analysis of a program tell the same, at each point and bit: so the table that one worker makes is the
-- one that any number of workers make, however the bits are cut.
abbrev pub TablesAreOne : Type 0
TablesAreOne =
    (program : Program) (one other : TableFacts) → IsTableOf program one → IsTableOf program other → one.analysis ≡ other.analysis
    → ((point : ℕ) → point < point_count program → (facts_of one).has_path point ≡ (facts_of other).has_path point)
    × ((point bit : ℕ) → point < point_count program → bit < bits program one.analysis
    → (facts_of one).contains point bit ≡ (facts_of other).contains point bit)
