-- What a linter tells of a text that is no program, for tools: an object of JSON a line, ASCII, as of a program; in place of remarks stand errors.
use Rattle.std.specs.Prelude.{ℕ, Bool, true, false, List, [], ◌++◌, flat_map, length, min, take, codes, decimal, nat_lt, if◌then◌else◌}
use Rattle.lint_json.specs.LintJson.{file_line, line_begin}
use Rattle.lint_styles.specs.Styles.{shown}
use Rattle.refusal_texts.specs.RefusalTexts.{hint_words, is_some_hint, kind_words, most_told}
use Rattle.refusal_texts.specs.declared.told.ToldRefusal.{ToldRefusal}
use Rattle.tac_faults.specs.declared.slips.Hint.{Hint}
use Rattle.tac_lines.specs.LineFaults.{number_of_kind}
use Rattle.tac_lines.specs.declared.refusal.Refusal.{Refusal}
use Rattle.text_pieces.specs.Strings.{quoted}

-- where a refusal is told, its number, and what is wrong
abbrev pub refusal_fields : Refusal → List ℕ
refusal_fields r =
    codes ",\"line\":" ++ decimal r.line ++ codes ",\"column\":" ++ decimal r.column ++ codes ",\"refusal\":" ++ decimal (number_of_kind r.kind)
    ++ codes ",\"words\":" ++ quoted (kind_words r.kind)

-- what stands there, and how it is mended, where that is told
abbrev pub note_field : Hint → (words : List ℕ) → List ℕ
note_field hint words = if is_some_hint hint then codes ",\"note\":" ++ quoted words else []

-- the line of an error of which this is told, in a file of this name
abbrev pub error_line_of : (name : List ℕ) → ToldRefusal → (words : List ℕ) → List ℕ
error_line_of name told words =
    line_begin (codes "error") name ++ refusal_fields told.refusal ++ note_field told.hint words ++ codes "}\n"

abbrev pub error_line : (name text : List ℕ) → ToldRefusal → List ℕ
error_line name text told = error_line_of name told (hint_words text told.hint)

abbrev pub boolean : Bool → List ℕ
boolean true = codes "true"
boolean false = codes "false"

-- The last line of a file in which so many errors were found: how many are told, and whether these are the first ones of more.
abbrev pub errors_line : (name : List ℕ) → ℕ → List ℕ
errors_line name count =
    line_begin (codes "end") name ++ codes ",\"errors\":" ++ decimal (min count most_told) ++ codes ",\"first\":" ++ boolean (nat_lt most_told count)
    ++ codes "}\n"

-- all lines of a file of this name, as it is shown
abbrev pub lines_of : (name text : List ℕ) → List ToldRefusal → List ℕ
lines_of name text found = file_line name ++ flat_map (error_line name text) (take most_told found) ++ errors_line name (length found)

abbrev pub refusal_json_of : (file text : List ℕ) → List ToldRefusal → List ℕ
refusal_json_of file text found = lines_of (shown file) text found
