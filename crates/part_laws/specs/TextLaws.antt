-- What the lines of a text say of its program's statements, and what the parts of its report make.
use Rattle.std.specs.Prelude.{◌≡◌, ℕ, ◌-◌, ◌^◌, ◌<◌, ◌≤◌, true, Ok, List, length, map}
use Rattle.std.specs.List.{list_all, range_with_len}
use Rattle.std.specs.List.Sorted.{IsPermutation}
use Rattle.flow_parts.specs.MergeLaws.{LinesRise, is_plain}
use Rattle.flow_parts.specs.Parts.{part_of}
use Rattle.flow_reports.specs.Reports.{Knowledge, report_of}
use Rattle.part_texts.specs.Merges.{merged}
use Rattle.tac_program.specs.Sound.{IsSound}
use Rattle.tac_reader.specs.Parses.{program_of}

-- The lines of a text's statements rise along the points, whatever the text.
abbrev pub LinesOfTextsRise : Type 0
LinesOfTextsRise = (text : List ℕ) → LinesRise (program_of text)

-- The texts of all parts of the report on a text's program, merged in whatever order, are the report: of every text of fewer than 2^32 - 1 bytes
-- whose program is sound, as that of each text is that is read.
abbrev pub PartsOfTextsAreTheReport : Type 0
PartsOfTextsAreTheReport = (text : List ℕ) (known : Knowledge) (digest : List ℕ) (count : ℕ) (order : List ℕ) → IsSound (program_of text)
    → length text < 2 ^ 32 - 1 → list_all is_plain digest ≡ true → 1 ≤ count → count ≤ 4096 → IsPermutation (range_with_len 1 count) order
    → merged (map (part_of digest (program_of text) known count) order) ≡ Ok (report_of (program_of text) known)
