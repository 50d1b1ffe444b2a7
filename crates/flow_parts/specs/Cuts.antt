-- How a report is cut into parts: an even cut of the variables and of the expressions, by whole groups of bits.
use Rattle.std.specs.Prelude.{ℕ, ◌+◌, ◌-◌, ◌*◌, ◌/◌, Bool, ◌==◌, ◌&&◌, length, nat_le, nat_lt}
use Rattle.flow_graph.specs.Universes.{bits}
use Rattle.flow_graph.specs.declared.analysis.Analysis.TheVariants.{Avail, Busy}
use Rattle.tac_program.specs.Programs.{Program}
use Rattle.flow_reports.specs.declared.remark.Remark.{Remark}
use Rattle.flow_reports.specs.declared.remark.Remark.TheVariants.{NeverReached, Unset, Computed, VeryBusy, Dead}

-- the group of a bit: eight words of 64 bits make one
abbrev pub group_of : ℕ → ℕ
group_of bit = bit / 512

-- how many groups so many bits have
abbrev pub groups_of : ℕ → ℕ
groups_of count = (count + 511) / 512

-- where part `part` ends in a cut of so many groups into `count` parts; part 0 would end at 0
abbrev pub cut_end : (groups count part : ℕ) → ℕ
cut_end groups count part = part * groups / count

abbrev pub is_in_cut : (bits_of count part bit : ℕ) → Bool
is_in_cut bits_of count part bit =
    nat_le (cut_end (groups_of bits_of) count (part - 1)) (group_of bit) && nat_lt (group_of bit) (cut_end (groups_of bits_of) count part)

-- A remark is in the part of its variable or of its expression; that a statement is never reached is in part 1.
abbrev pub is_in_part : Program → (count part : ℕ) → Remark → Bool
is_in_part program count part NeverReached = part == 1
is_in_part program count part (Unset variable) = is_in_cut (length program.variable_names) count part variable
is_in_part program count part (Computed bit) = is_in_cut (bits program Avail) count part bit
is_in_part program count part (VeryBusy bit) = is_in_cut (bits program Busy) count part bit
is_in_part program count part (Dead variable) = is_in_cut (length program.variable_names) count part variable
