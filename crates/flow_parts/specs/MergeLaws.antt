-- What the parts of a report make when they are merged.
use Rattle.std.specs.Prelude.{◌≡◌, ℕ, ◌^◌, ◌<◌, ◌≤◌, ◌&&◌, Bool, not, true, Ok, List, ◌++◌, IsSome, codes, decimal, length, map}
use Rattle.std.specs.List.{list_all, range_with_len}
use Rattle.std.specs.List.Sorted.{IsPermutation}
use Rattle.flow_graph.specs.Points.{kind_at, point_count}
use Rattle.flow_graph.specs.Universes.{definitions, expressions}
use Rattle.tac_program.specs.Programs.{Program}
use Rattle.tac_program.specs.Sound.{IsSound}
use Rattle.flow_texts.specs.Tables.{line_at}
use Rattle.flow_reports.specs.Reports.{Knowledge, remark_text, report_of}
use Rattle.flow_reports.specs.declared.listed.PlacedRemark.{PlacedRemark}
use Rattle.part_texts.specs.Lines.{Line, is_line_feed, is_space}
use Rattle.part_texts.specs.Merges.{merged, report_of_parts}
use Rattle.part_texts.specs.Parts.{Part}
use Rattle.part_texts.specs.declared.form.PartForm.TheVariants.{Report}
use Rattle.flow_parts.specs.PartLaws.{kind_of}
use Rattle.flow_parts.specs.Parts.{part_of, part_remarks}

-- The lines of statements rise along the points, as those of a text do that has one statement on a line.
abbrev pub LinesRise : Program → Type 0
LinesRise program = (p q : ℕ) → p < q → IsSome (kind_at program p) → IsSome (kind_at program q) → line_at program p < line_at program q

-- the line of a remark in a part, as it is read
abbrev pub line_in : Program → ℕ → PlacedRemark → Line
line_in program part placed = record {
  mark = record { section = 0; number = line_at program placed.point; kind = kind_of placed.remark };
  part = part;
  text = decimal (line_at program placed.point) ++ codes ": " ++ remark_text program placed.remark;
}

-- the report's first line without its line feed
abbrev pub counts_of : Program → List ℕ
counts_of program =
    codes "points " ++ decimal (point_count program) ++ codes ", variables " ++ decimal (length program.variable_names)
    ++ codes ", definitions " ++ decimal (length (definitions program)) ++ codes ", expressions " ++ decimal (length (expressions program))

-- a part of a report, as it is read
abbrev pub read_as : (digest : List ℕ) → Program → Knowledge → (count part : ℕ) → Part
read_as digest program known count part = record {
  heading = record { form = Report; part = part; count = count; digest = digest };
  counts = counts_of program;
  lines = map (line_in program part) (part_remarks program known count part);
}

-- All parts of a report, in whatever order, make the report.
abbrev pub MergedPartsAreTheReport : Type 0
MergedPartsAreTheReport = (program : Program) (known : Knowledge) (digest : List ℕ) (count : ℕ) (order : List ℕ) → IsSound program → LinesRise program
    → 1 ≤ count → count ≤ 4096 → IsPermutation (range_with_len 1 count) order → report_of_parts (map (read_as digest program known count) order)
    ≡ report_of program known

-- The digest is one word.
abbrev pub is_plain : ℕ → Bool
is_plain b = not (is_space b) && not (is_line_feed b)

-- The texts of all parts, merged in whatever order, are the report.
abbrev pub MergedTextsAreTheReport : Type 0
MergedTextsAreTheReport = (program : Program) (known : Knowledge) (digest : List ℕ) (count : ℕ) (order : List ℕ) → IsSound program → LinesRise program
    → ((point : ℕ) → line_at program point < 2 ^ 32) → list_all is_plain digest ≡ true → 1 ≤ count → count ≤ 4096
    → IsPermutation (range_with_len 1 count) order
    → merged (map (part_of digest program known count) order) ≡ Ok (report_of program known)
