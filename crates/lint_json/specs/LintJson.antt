-- What a linter tells of a program, for tools: an object of JSON a line, ASCII. The first names the file, the last says how many remarks there
-- are, and between them stands each remark that is told, its notes behind it, and how many dead assignments are not told.
use Rattle.std.specs.Prelude.{◌≡◌, ℕ, Bool, List, [], ◌++◌, flat_map, Option, Some, None, codes, decimal, nat_eq, if◌then◌else◌}
use Rattle.flow_graph.specs.Points.{procedure_at}
use Rattle.flow_graph.specs.declared.analysis.Analysis.TheVariants.{Avail, Busy}
use Rattle.flow_lints.specs.Lints.{IsLinted}
use Rattle.flow_lints.specs.declared.lint.Lint.{Lint}
use Rattle.flow_lints.specs.declared.lint.Lint.TheVariants.{NeverCalled, Told}
use Rattle.flow_lints.specs.declared.lint.Linted.{Linted}
use Rattle.flow_lints.specs.declared.lint.PlacedLint.{PlacedLint}
use Rattle.flow_reports.specs.declared.remark.Remark.{Remark}
use Rattle.flow_reports.specs.declared.remark.Remark.TheVariants.{NeverReached, Unset, Computed, VeryBusy, Dead}
use Rattle.flow_texts.specs.Tables.{bit_text, line_at, variable_text}
use Rattle.lint_styles.specs.Styles.{shown}
use Rattle.flow_why.specs.declared.hop.Hop.{Hop}
use Rattle.lint_texts.specs.LintTexts.{AreWays, FileText, Known, TellReached, Turns, behind_first, column_at, has_untold, is_remark_told, kind_text}
use Rattle.lint_texts.specs.LintTexts.{known_of, last_unreached, later_words, lint_words, told_count, turn_point, turn_words, unset_of}
use Rattle.lint_texts.specs.Starts.{stands_at, told_at}
use Rattle.lint_texts.specs.declared.starts.Start.{Start}
use Rattle.lint_texts.specs.declared.telling.Telling.{Telling}
use Rattle.tac_program.specs.Names.{name_at}
use Rattle.tac_program.specs.Programs.{Program}
use Rattle.text_pieces.specs.Strings.{quoted}

-- the beginning of each line: its type, and what the file is called, as it is shown
abbrev pub line_begin : (type name : List ℕ) → List ℕ
line_begin type name = codes "{\"type\":\"" ++ type ++ codes "\",\"file\":" ++ quoted name

-- the first line of a file
abbrev pub file_line : List ℕ → List ℕ
file_line name = line_begin (codes "file") name ++ codes ",\"version\":1}\n"

-- where something is told
abbrev pub place_fields : List ℕ → Start → List ℕ
place_fields text start = codes ",\"line\":" ++ decimal start.line ++ codes ",\"column\":" ++ decimal (column_at text start.place)

-- what a remark names: a variable, an expression, or the last line of statements that are never reached
abbrev pub remark_name : Program → (ℕ → Bool) → ℕ → Remark → List ℕ
remark_name program reached point NeverReached =
    codes ",\"last_line\":" ++ decimal (line_at program (last_unreached program reached point))
remark_name program reached point (Unset variable) = codes ",\"variable\":" ++ quoted (variable_text program variable)
remark_name program reached point (Computed bit) = codes ",\"expression\":" ++ quoted (bit_text program Avail bit)
remark_name program reached point (VeryBusy bit) = codes ",\"expression\":" ++ quoted (bit_text program Busy bit)
remark_name program reached point (Dead variable) = codes ",\"variable\":" ++ quoted (variable_text program variable)

-- A procedure that is never called is the one in which that is told.
abbrev pub lint_name : Program → (ℕ → Bool) → ℕ → Lint → List ℕ
lint_name program reached point (NeverCalled procedure) = []
lint_name program reached point (Told remark) = remark_name program reached point remark

-- the procedure in which a point lies
abbrev pub procedure_field : Program → ℕ → List ℕ
procedure_field program point = codes ",\"procedure\":" ++ quoted (name_at program.procedure_names (procedure_at program point))

-- a lint's kind, and what it says
abbrev pub words_fields : Lint → (words : List ℕ) → List ℕ
words_fields lint words = codes ",\"kind\":" ++ quoted (kind_text lint) ++ codes ",\"words\":" ++ quoted words

-- the line of a lint that says this, in a file of this name and text
abbrev pub remark_line_of : (name text : List ℕ) → Program → (ℕ → Bool) → PlacedLint → (words : List ℕ) → List ℕ
remark_line_of name text program reached placed words =
    line_begin (codes "remark") name ++ place_fields text (told_at text program placed.point)
    ++ words_fields placed.lint words ++ lint_name program reached placed.point placed.lint
    ++ procedure_field program placed.point ++ codes "}\n"

abbrev pub remark_line : (name text : List ℕ) → Program → (ℕ → Bool) → PlacedLint → List ℕ
remark_line name text program reached placed =
    remark_line_of name text program reached placed (lint_words program reached placed.point placed.lint)

-- the line of a note at a point that says this
abbrev pub note_line_of : (type name text : List ℕ) → Program → (point : ℕ) → (words : List ℕ) → List ℕ
note_line_of type name text program point words =
    line_begin type name ++ place_fields text (stands_at text program point) ++ codes ",\"words\":" ++ quoted words
    ++ procedure_field program point ++ codes "}\n"

-- a turn of a way, and how many more it has, where some are left out
abbrev pub turn_line : (name text : List ℕ) → Program → Hop → List ℕ
turn_line name text program turn = note_line_of (codes "turn") name text program (turn_point turn) (turn_words program turn)

abbrev pub more_turns_line : (name : List ℕ) → ℕ → List ℕ
more_turns_line name count =
    if nat_eq count 0 then [] else line_begin (codes "more_turns") name ++ codes ",\"count\":" ++ decimal count ++ codes "}\n"

-- the turns of a way, where ways are asked for
abbrev pub way_lines : (name text : List ℕ) → Telling → Program → Turns → List ℕ
way_lines name text telling program way =
    if telling.why then flat_map (turn_line name text program) way.turns ++ more_turns_line name way.left_out else []

-- a later point at which a variable may be used before it is set
abbrev pub later_line : (name text : List ℕ) → Program → (variable : ℕ) → (point : ℕ) → List ℕ
later_line name text program variable point = note_line_of (codes "later") name text program point (later_words program variable)

-- the lines of the notes of a lint
abbrev pub use_notes : (name text : List ℕ) → Telling → Program → Known → ℕ → List ℕ
use_notes name text telling program known variable =
    way_lines name text telling program (known.ways variable) ++ flat_map (later_line name text program variable) (behind_first (known.uses variable))

abbrev pub lint_notes : (name text : List ℕ) → Telling → Program → Known → Lint → List ℕ
lint_notes name text telling program known lint = elim (unset_of lint) [ Some variable ↦ use_notes name text telling program known variable | None ↦ [] ]

-- the lines of a lint that is told as a remark
abbrev pub told_lines : (name text : List ℕ) → Telling → Program → Known → PlacedLint → List ℕ
told_lines name text telling program known placed =
    if is_remark_told telling program known.uses placed
    then remark_line name text program known.reached placed ++ lint_notes name text telling program known placed.lint else []

-- from which line on the program may never end
abbrev pub from_line : List ℕ → Program → Option ℕ → List ℕ
from_line text program (Some point) = decimal (stands_at text program point).line
from_line text program None = codes "null"

-- how many dead assignments are not told, since the program may never end, where that is wanted and so
abbrev pub untold_line : (name text : List ℕ) → Program → Linted → List ℕ
untold_line name text program linted =
    line_begin (codes "untold") name ++ codes ",\"count\":" ++ decimal linted.left_out
    ++ codes ",\"from_line\":" ++ from_line text program linted.endless ++ codes "}\n"

abbrev pub wanted_untold : (name text : List ℕ) → Telling → Program → Linted → List ℕ
wanted_untold name text telling program linted = if has_untold telling linted then untold_line name text program linted else []

-- the last line of a file: who does not find it has not all of them
abbrev pub end_line : (name : List ℕ) → ℕ → List ℕ
end_line name count = line_begin (codes "end") name ++ codes ",\"remarks\":" ++ decimal count ++ codes "}\n"

-- all lines of a file of this name, as it is shown
abbrev pub lines_of : (name text : List ℕ) → Telling → Program → (ℕ → Bool) → (ℕ → Turns) → Linted → List ℕ
lines_of name text telling program reached ways linted =
    file_line name ++ flat_map (told_lines name text telling program (known_of telling program linted reached ways)) linted.lints.items
    ++ wanted_untold name text telling program linted ++ end_line name (told_count telling program linted)

abbrev pub lint_json_of : FileText → Telling → Program → (ℕ → Bool) → (ℕ → Turns) → Linted → List ℕ
lint_json_of file telling program reached ways linted = lines_of (shown file.name) file.text telling program reached ways linted

-- The text tells these lints of the program.
pub record IsLintJson (file : FileText) (telling : Telling) (program : Program) (linted : Linted) (text : List ℕ) : Type 0 where
  pub reached : ℕ → Bool
  pub are_reached : TellReached program reached
  pub ways : ℕ → Turns
  pub are_ways : AreWays telling program linted ways
  pub is_text : text ≡ lint_json_of file telling program reached ways linted

-- The text tells what is told of the program: its lints are over the meets over all valid paths.
pub record TellsLintJson (file : FileText) (telling : Telling) (program : Program) (text : List ℕ) : Type 0 where
  pub linted : Linted
  pub is_linted : IsLinted program linted
  pub is_text : IsLintJson file telling program linted text
