-- The text of a part of a report.
use Rattle.std.specs.Prelude.{◌≡◌, ℕ, ◌+◌, ◌/◌, ◌%◌, List, [], ◌∷◌, ◌++◌, filter, flat_map, nat_lt, if◌then◌else◌, codes, decimal}
use Rattle.sha1.specs.Sha1.{sha1}
use Rattle.tac_program.specs.Programs.{Program}
use Rattle.flow_reports.specs.Reports.{IsKnowledge, Knowledge, count_line, remark_line}
use Rattle.flow_reports.specs.Listed.{remarks_of}
use Rattle.flow_reports.specs.declared.listed.PlacedRemark.{PlacedRemark}
use Rattle.flow_parts.specs.Cuts.{is_in_part}

abbrev pub hexadecimal_digit : ℕ → ℕ
hexadecimal_digit value = if nat_lt value 10 then 48 + value else 87 + value

abbrev pub hexadecimal : List ℕ → List ℕ
hexadecimal bytes = flat_map (λ byte. hexadecimal_digit (byte / 16) ∷ hexadecimal_digit (byte % 16) ∷ []) bytes

-- what names a program: the SHA-1 of the text that it was read from
abbrev pub digest_of : List ℕ → List ℕ
digest_of text = hexadecimal (sha1 text)

-- the remarks of a part, in the report's order
abbrev pub part_remarks : Program → Knowledge → (count part : ℕ) → List PlacedRemark
part_remarks program known count part = filter (λ placed. is_in_part program count part placed.remark) (remarks_of program known)

-- `part K of N of DIGEST`
abbrev pub heading_line : (digest : List ℕ) (count part : ℕ) → List ℕ
heading_line digest count part = codes "part " ++ decimal part ++ codes " of " ++ decimal count ++ codes " of " ++ digest ++ codes "\n"

-- `end K`: where it lacks, the text was cut short
abbrev pub end_line : ℕ → List ℕ
end_line part = codes "end " ++ decimal part ++ codes "\n"

abbrev pub part_lines : Program → List PlacedRemark → List ℕ
part_lines program remarks = flat_map (λ placed. remark_line program placed.point placed.remark) remarks

-- The text of a part: its first line, the report's first line, the lines of its remarks, and its last line.
abbrev pub part_of : (digest : List ℕ) → Program → Knowledge → (count part : ℕ) → List ℕ
part_of digest program known count part =
    heading_line digest count part ++ count_line program ++ part_lines program (part_remarks program known count part) ++ end_line part

-- The text is that part of the report over the meets over all valid paths.
pub record IsPart (program : Program) (digest : List ℕ) (count part : ℕ) (text : List ℕ) : Type 0 where
  pub known : Knowledge
  pub is_known : IsKnowledge program known
  pub is_text : text ≡ part_of digest program known count part
