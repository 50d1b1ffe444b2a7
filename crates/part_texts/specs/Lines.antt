-- The lines of a part, of a report or of JSON.
use Rattle.std.specs.Prelude.{ℕ, ◌+◌, ◌*◌, Bool, List, drop, length, Option, Some, None, option_map, option_and_then, ◌==◌, ◌&&◌, nat_eq, nat_le}
use Rattle.std.specs.Prelude.{nat_lt}
use Rattle.std.specs.Prelude.{bytes_eq, codes, if◌then◌else◌}
use Rattle.std.specs.List.{after_first, before_first, ends_with, list_all, starts_with}
use Rattle.std.specs.Str.Parse.{digits_value}
use Rattle.part_texts.specs.declared.form.PartForm.{PartForm}
use Rattle.part_texts.specs.declared.form.PartForm.TheVariants.{Report, Json}
use Rattle.part_texts.specs.declared.mark.Mark.{Mark}
use Rattle.tac_program.specs.Spelling.{is_digit}

abbrev pub is_line_feed : ℕ → Bool
is_line_feed b = b == 10

abbrev pub is_space : ℕ → Bool
is_space b = b == 32

abbrev pub is_colon : ℕ → Bool
is_colon b = b == 58

abbrev pub is_comma : ℕ → Bool
is_comma b = b == 44

-- the number that decimal digits write, where it is at most so large
abbrev pub read_number : ℕ → List ℕ → Option ℕ
read_number most digits =
    if (nat_lt 0 (length digits) && list_all is_digit digits) && nat_le (digits_value 10 digits) most then Some (digits_value 10 digits) else None

-- The place of a remark's kind among those on a line, told by its words.
abbrev pub kind_of : List ℕ → Option ℕ
kind_of words =
    if bytes_eq words (codes "never reached") then Some 0
    else if ends_with nat_eq words (codes " may be used before it is set") then Some 1
    else if ends_with nat_eq words (codes " is already computed") then Some 2
    else if ends_with nat_eq words (codes " is very busy") then Some 3
    else if starts_with nat_eq words (codes "assignment to ") && ends_with nat_eq words (codes " is dead") then Some 4
    else None

-- what stands behind these words, where a text begins with them
abbrev pub behind_words : (words text : List ℕ) → Option (List ℕ)
behind_words words text = if starts_with nat_eq text words then Some (drop (length words) text) else None

-- Of a line `LINE: REMARK` of a report: the line that it is on, and the place of its kind.
abbrev pub report_mark : List ℕ → Option Mark
report_mark text =
    option_and_then (λ number. option_map (λ kind. record { section = 0; number = number; kind = kind })
    (option_and_then kind_of (behind_words (codes " ") (after_first is_colon text)))) (read_number 4294967295 (before_first is_colon text))

-- the number of a point, as its field tells it
abbrev pub point_in : List ℕ → Option ℕ
point_in field = option_and_then (read_number 4294967295) (behind_words (codes "\"point\":") field)

-- The place of a remark's kind, as its field tells it. That a statement is never reached is the last field of its line.
abbrev pub json_kind : List ℕ → Option ℕ
json_kind field =
    if bytes_eq field (codes "\"kind\":\"never_reached\"}") then Some 0
    else if bytes_eq field (codes "\"kind\":\"unset\"") then Some 1
    else if bytes_eq field (codes "\"kind\":\"computed\"") then Some 2
    else if bytes_eq field (codes "\"kind\":\"busy\"") then Some 3
    else if bytes_eq field (codes "\"kind\":\"dead\"") then Some 4
    else None

-- what stands behind the fields of the point, the line, and the first and the last byte
abbrev pub behind_place : List ℕ → List ℕ
behind_place fields = after_first is_comma (after_first is_comma (after_first is_comma (after_first is_comma fields)))

-- of a point, and of a remark on one, by the fields behind their type
abbrev pub point_mark : List ℕ → Option Mark
point_mark fields = option_map (λ point. record { section = 0; number = point; kind = 0 }) (point_in (before_first is_comma fields))

abbrev pub remark_mark : List ℕ → Option Mark
remark_mark fields =
    option_and_then (λ point. option_map (λ kind. record { section = 1; number = point; kind = kind })
    (json_kind (before_first is_comma (behind_place fields)))) (point_in (before_first is_comma fields))

-- The points stand before the remarks, and the last line behind them.
abbrev pub mark_by : (type fields : List ℕ) → Option Mark
mark_by type fields =
    if bytes_eq type (codes "{\"type\":\"point\"") then point_mark fields
    else if bytes_eq type (codes "{\"type\":\"remark\"") then remark_mark fields
    else if bytes_eq type (codes "{\"type\":\"end\"") then Some (record { section = 2; number = 0; kind = 0 })
    else None

-- Of a line of JSON: the point that it is on, and the place of its kind.
abbrev pub json_mark : List ℕ → Option Mark
json_mark text = mark_by (before_first is_comma text) (after_first is_comma text)

abbrev pub mark_of : PartForm → List ℕ → Option Mark
mark_of Report text = report_mark text
mark_of Json text = json_mark text

-- A line of a part: where it stands, the part in which it stands, and its bytes.
pub record Line : Type 0 where
  pub mark : Mark
  pub part : ℕ
  pub text : List ℕ

abbrev pub read_line : PartForm → ℕ → List ℕ → Option Line
read_line form part text = option_map (λ mark. record { mark = mark; part = part; text = text }) (mark_of form text)

-- A line's place among those of all parts: by its section, there by its number and its kind, and in one kind by its part.
abbrev pub place : Line → ℕ
place line = (5 * (4294967296 * line.mark.section + line.mark.number) + line.mark.kind) * 8192 + line.part
