-- What is read of the text of a part.
use Rattle.std.specs.Prelude.{ℕ, ◌-◌, ◌++◌, Bool, true, false, List, [], ◌∷◌, Option, Some, None, Result, Ok, Err, nat_eq, nat_le, ◌&&◌}
use Rattle.std.specs.Prelude.{bytes_eq, codes, decimal, if◌then◌else◌, length, option_and_then, take}
use Rattle.std.specs.List.{ends_with, slice_split}
use Rattle.std.specs.Option.{option_or}
use Rattle.part_texts.specs.Shares.{most_parts}
use Rattle.part_texts.specs.Lines.{Line, behind_words, is_comma, is_line_feed, is_space, read_line, read_number}
use Rattle.part_texts.specs.declared.form.PartForm.{PartForm}
use Rattle.part_texts.specs.declared.form.PartForm.TheVariants.{Report, Json}
use Rattle.part_texts.specs.declared.fault.PartFault.{PartFault}
use Rattle.part_texts.specs.declared.fault.PartFault.TheVariants.{CutShort, NoPart}

-- what the first line of a part tells: in which form it is, which part, of how many, and of which program
pub record Heading : Type 0 where
  pub form : PartForm
  pub part : ℕ
  pub count : ℕ
  pub digest : List ℕ

abbrev pub numbered : PartForm → ℕ → ℕ → List ℕ → Option Heading
numbered form part count digest =
    if nat_le 1 part && (nat_le part count && nat_le count most_parts)
    then Some (record { form = form; part = part; count = count; digest = digest }) else None

abbrev pub heading_from : PartForm → Option ℕ → Option ℕ → List ℕ → Option Heading
heading_from form (Some part) (Some count) digest = numbered form part count digest
heading_from form (Some part) None digest = None
heading_from form None count digest = None

-- of a report's part, `part K of N of DIGEST`, by the words between spaces
abbrev pub heading_of : List (List ℕ) → Option Heading
heading_of (first ∷ part ∷ second ∷ count ∷ third ∷ digest ∷ []) =
    if bytes_eq first (codes "part") && (bytes_eq second (codes "of") && bytes_eq third (codes "of"))
    then heading_from Report (read_number most_parts part) (read_number most_parts count) digest else None
heading_of _ = None

-- the number in a field, behind its name
abbrev pub number_in : (name field : List ℕ) → Option ℕ
number_in name field = option_and_then (read_number most_parts) (behind_words name field)

-- what stands before these words, where a text ends with them
abbrev pub before_words : (words text : List ℕ) → Option (List ℕ)
before_words words text = if ends_with nat_eq text words then Some (take (length text - length words) text) else None

abbrev pub digest_in : List ℕ → Option (List ℕ)
digest_in field = option_and_then (before_words (codes "\"}")) (behind_words (codes "\"digest\":\"") field)

-- of a part of JSON, `{"type":"part","version":1,"part":K,"parts":N,"digest":"DIGEST"}`, by the fields between commas
abbrev pub json_heading_of : List (List ℕ) → Option Heading
json_heading_of (type ∷ version ∷ part ∷ count ∷ digest ∷ []) =
    if bytes_eq type (codes "{\"type\":\"part\"") && bytes_eq version (codes "\"version\":1")
    then option_and_then (heading_from Json (number_in (codes "\"part\":") part) (number_in (codes "\"parts\":") count)) (digest_in digest) else None
json_heading_of _ = None

abbrev pub read_heading : List ℕ → Option Heading
read_heading line = option_or (heading_of (slice_split is_space line)) (json_heading_of (slice_split is_comma line))

abbrev pub is_same_form : PartForm → PartForm → Bool
is_same_form Report Report = true
is_same_form Report Json = false
is_same_form Json Report = false
is_same_form Json Json = true

-- the last line: `end K`, or `{"type":"end-part","part":K}`
abbrev pub end_words : PartForm → ℕ → List ℕ
end_words Report part = codes "end " ++ decimal part
end_words Json part = codes "{\"type\":\"end-part\",\"part\":" ++ decimal part ++ codes "}"

-- nothing stands behind the line feed
abbrev pub is_end : List (List ℕ) → Bool
is_end ([] ∷ []) = true
is_end _ = false

abbrev pub fault_behind : List (List ℕ) → PartFault
fault_behind [] = CutShort
fault_behind _ = NoPart

abbrev pub with_line : Line → Result (List Line) PartFault → Result (List Line) PartFault
with_line line (Ok lines) = Ok (line ∷ lines)
with_line line (Err fault) = Err fault

-- The lines of a part in a form, out of what stands between line feeds; the last one ends it.
abbrev pub read_lines : PartForm → ℕ → List (List ℕ) → Result (List Line) PartFault
read_lines form part [] = Err CutShort
read_lines form part (text ∷ others) =
    if bytes_eq text (end_words form part) && is_end others then Ok []
    else elim (read_line form part text) [ Some line ↦ with_line line (read_lines form part others) | None ↦ Err (fault_behind others) ]

-- a part: its heading, the first line of what is in parts, and its lines
pub record Part : Type 0 where
  pub heading : Heading
  pub counts : List ℕ
  pub lines : List Line

abbrev pub with_lines : Heading → List ℕ → Result (List Line) PartFault → Result Part PartFault
with_lines heading counts (Ok lines) = Ok (record { heading = heading; counts = counts; lines = lines })
with_lines heading counts (Err fault) = Err fault

abbrev pub read_rows : List (List ℕ) → Result Part PartFault
read_rows [] = Err NoPart
read_rows (first ∷ []) = Err NoPart
read_rows (first ∷ counts ∷ others) =
    elim (read_heading first) [ Some heading ↦ with_lines heading counts (read_lines heading.form heading.part others) | None ↦ Err NoPart ]

-- The text has no line feed behind its first line: it is no part. It ends before its last line: it is cut short.
abbrev pub read_part : List ℕ → Result Part PartFault
read_part text = read_rows (slice_split is_line_feed text)
