-- The text of what a linter tells of a program. Of a variable that may be used before it is set at several points the first is told as a
-- remark, and those behind it are notes of it.
use Rattle.std.specs.Prelude.{◌≡◌, ◌↔◌, ℕ, ◌+◌, ◌-◌, ◌<◌, Bool, true, false, not, ◌&&◌, List, [], ◌∷◌, ◌++◌, flat_map, Option, Some, None}
use Rattle.std.specs.Prelude.{if◌then◌else◌, codes, decimal, count_by, length, nat_eq, nat_lt, option_map, take, unwrap_or}
use Rattle.std.specs.List.{filter, prefix_len, range_with_len}
use Rattle.std.specs.Option.{option_map_or}
use Rattle.flow_graph.specs.Analyses.{HasPathAt, shape_of, transfer_of}
use Rattle.flow_graph.specs.Points.{kind_at, point_count, procedure_at}
use Rattle.flow_graph.specs.declared.analysis.Analysis.TheVariants.{Reach, Avail, Busy}
use Rattle.flow_lints.specs.Lints.{IsLinted}
use Rattle.flow_lints.specs.declared.lint.Lint.{Lint}
use Rattle.flow_lints.specs.declared.lint.Lint.TheVariants.{NeverCalled, Told}
use Rattle.flow_lints.specs.declared.lint.Linted.{Linted}
use Rattle.flow_lints.specs.declared.lint.PlacedLint.{PlacedLint}
use Rattle.report_answers.specs.Statements.{is_test}
use Rattle.flow_reports.specs.declared.remark.Remark.{Remark}
use Rattle.flow_reports.specs.declared.remark.Remark.TheVariants.{NeverReached, Unset, Computed, VeryBusy, Dead}
use Rattle.flow_texts.specs.Tables.{bit_text, line_at, variable_text}
use Rattle.flow_why.specs.Witnesses.{IsWitness}
use Rattle.flow_why.specs.declared.hop.Hop.{Hop}
use Rattle.flow_why.specs.declared.hop.Hop.TheVariants as hop
use Rattle.lint_styles.specs.Styles.{painted, shown, source_at}
use Rattle.lint_styles.specs.declared.style.Hue.TheVariants as hue
use Rattle.lint_styles.specs.declared.style.Style.{Style}
use Rattle.lint_texts.specs.Starts.{stands_at, told_at}
use Rattle.lint_texts.specs.declared.file.File.{File}
use Rattle.lint_texts.specs.declared.kinds.Kinds.{Kinds}
use Rattle.lint_texts.specs.declared.starts.Start.{Start}
use Rattle.lint_texts.specs.declared.telling.Telling.{Telling}
use Rattle.tac_lines.specs.Text.{column_after}
use Rattle.tac_program.specs.Names.{name_at}
use Rattle.tac_program.specs.Programs.{Program}

-- the kinds that are told where nothing else is asked for
abbrev pub usual_kinds : Kinds
usual_kinds = record { never_called = true; never_reached = true; unset = true; computed = false; busy = false; dead = true }

-- whether a remark is of a kind that is wanted, and whether a lint is
abbrev pub is_remark_wanted : Kinds → Remark → Bool
is_remark_wanted kinds NeverReached = kinds.never_reached
is_remark_wanted kinds (Unset variable) = kinds.unset
is_remark_wanted kinds (Computed bit) = kinds.computed
is_remark_wanted kinds (VeryBusy bit) = kinds.busy
is_remark_wanted kinds (Dead variable) = kinds.dead

abbrev pub is_wanted : Kinds → Lint → Bool
is_wanted kinds (NeverCalled procedure) = kinds.never_called
is_wanted kinds (Told remark) = is_remark_wanted kinds remark

-- whether a point lies in a procedure, where one is given
abbrev pub is_in : Program → Option ℕ → ℕ → Bool
is_in program None point = true
is_in program (Some procedure) point = nat_eq (procedure_at program point) procedure

-- whether a lint is told: it is of a kind that is wanted, and lies where that is asked for
abbrev pub is_told : Telling → Program → PlacedLint → Bool
is_told telling program placed = is_wanted telling.kinds placed.lint && is_in program telling.procedure placed.point

-- the variable of which a lint says that it may be used before it is set
abbrev pub unset_by : Remark → Option ℕ
unset_by NeverReached = None
unset_by (Unset variable) = Some variable
unset_by (Computed bit) = None
unset_by (VeryBusy bit) = None
unset_by (Dead variable) = None

abbrev pub unset_of : Lint → Option ℕ
unset_of (NeverCalled procedure) = None
unset_of (Told remark) = unset_by remark

-- whether that is this variable
abbrev pub is_use_of : ℕ → Lint → Bool
is_use_of variable lint = option_map_or (λ other. nat_eq other variable) (unset_of lint) false

-- the points at which that is told of a variable, in their order
abbrev pub use_told : Telling → Program → ℕ → PlacedLint → List ℕ
use_told telling program variable placed =
    if is_told telling program placed then (if is_use_of variable placed.lint then placed.point ∷ [] else []) else []

abbrev pub uses_told : Telling → Program → Linted → ℕ → List ℕ
uses_told telling program linted variable = flat_map (use_told telling program variable) linted.lints.items

-- whether a point is the first of some, and those behind the first
abbrev pub is_first_of : List ℕ → ℕ → Bool
is_first_of [] point = true
is_first_of (first ∷ later) point = nat_eq first point

abbrev pub behind_first : List ℕ → List ℕ
behind_first [] = []
behind_first (first ∷ later) = later

-- Whether a lint is told by itself, by the points at which a variable may be used before it is set: it is not of a later one.
abbrev pub is_first : (ℕ → List ℕ) → PlacedLint → Bool
is_first uses placed = elim (unset_of placed.lint) [ Some variable ↦ is_first_of (uses variable) placed.point | None ↦ true ]

-- whether a lint is told as a remark
abbrev pub is_remark_told : Telling → Program → (ℕ → List ℕ) → PlacedLint → Bool
is_remark_told telling program uses placed = is_told telling program placed && is_first uses placed

-- ---- the way to the first use of a variable, on which it is not set

-- whether a test stands at a point
abbrev pub has_test : Program → ℕ → Bool
has_test program point = unwrap_or (option_map is_test (kind_at program point)) false

-- A hop is a turn of a way if it enters a call, passes one, or leads on from a test. All hops of a way lie in the program; that this one does
-- is looked at here.
abbrev pub is_turn : Program → Hop → Bool
is_turn program (hop.Step x y) = (nat_lt x (point_count program) && nat_lt y (point_count program)) && has_test program x
is_turn program (hop.Enter site x y) = nat_lt x (point_count program) && nat_lt y (point_count program)
is_turn program (hop.Pass site x callee z effect) = nat_lt x (point_count program)

abbrev pub turn_point : Hop → ℕ
turn_point (hop.Step x y) = x
turn_point (hop.Enter site x y) = x
turn_point (hop.Pass site x callee z effect) = x

-- how many turns of a way are told
abbrev pub most_turns : ℕ
most_turns = 20

-- the turns of a way that are told, and how many more it has
pub record Turns : Type 0 where
  pub turns : List Hop
  pub left_out : ℕ

abbrev pub turns_told : Program → List Hop → Turns
turns_told program hops = record {
  turns = take most_turns (filter (is_turn program) hops);
  left_out = length (filter (is_turn program) hops) - most_turns;
}

-- They are those of a way that leads from the beginning of `main` to the point and on which the variable is not set: a witness that its value at
-- the beginning, which has the variable's number, comes there.
pub record AreTurnsTo (program : Program) (variable point : ℕ) (turns : Turns) : Type 0 where
  pub hops : List Hop
  pub is_witness : IsWitness (shape_of program) (transfer_of program Reach variable) point hops
  pub are_turns : turns ≡ turns_told program hops

-- For each variable of which a use is told they are so of the first, where ways are asked for.
abbrev pub AreWays : Telling → Program → Linted → (ℕ → Turns) → Type 0
AreWays telling program linted ways =
    (variable first : ℕ) (later : List ℕ) → telling.why ≡ true → uses_told telling program linted variable ≡ first ∷ later
    → AreTurnsTo program variable first (ways variable)

-- what a kind is called
abbrev pub remark_kind : Remark → List ℕ
remark_kind NeverReached = codes "never-reached"
remark_kind (Unset variable) = codes "unset"
remark_kind (Computed bit) = codes "computed"
remark_kind (VeryBusy bit) = codes "busy"
remark_kind (Dead variable) = codes "dead"

abbrev pub kind_text : Lint → List ℕ
kind_text (NeverCalled procedure) = codes "never-called"
kind_text (Told remark) = remark_kind remark

-- whether a statement stands at the point, and no valid path leads there
abbrev pub is_unreached : Program → (ℕ → Bool) → ℕ → Bool
is_unreached program reached point = elim (kind_at program point) [ Some statement ↦ not (reached point) | None ↦ false ]

-- The last point of the statements in a row that are never reached, of which one stands at the point: those behind it up to the next point
-- that is reached or is the end of its procedure.
abbrev pub last_unreached : Program → (ℕ → Bool) → ℕ → ℕ
last_unreached program reached point =
    point + prefix_len (is_unreached program reached) (range_with_len (point + 1) (point_count program - (point + 1)))

abbrev pub unreached_words : Program → ℕ → ℕ → List ℕ
unreached_words program point last =
    if nat_eq last point then codes "this statement is never reached"
    else codes "no statement from here to line " ++ decimal (line_at program last) ++ codes " is ever reached"

abbrev pub remark_words : Program → (ℕ → Bool) → ℕ → Remark → List ℕ
remark_words program reached point NeverReached = unreached_words program point (last_unreached program reached point)
remark_words program reached point (Unset variable) = variable_text program variable ++ codes " may be used before it is set"
remark_words program reached point (Computed bit) = bit_text program Avail bit ++ codes " is already computed"
remark_words program reached point (VeryBusy bit) = bit_text program Busy bit ++ codes " is very busy"
remark_words program reached point (Dead variable) = codes "the value assigned to " ++ variable_text program variable ++ codes " is never used"

abbrev pub lint_words : Program → (ℕ → Bool) → ℕ → Lint → List ℕ
lint_words program reached point (NeverCalled procedure) = codes "procedure " ++ name_at program.procedure_names procedure ++ codes " is never called"
lint_words program reached point (Told remark) = remark_words program reached point remark

-- a file: what it is called, and its text
pub record FileText : Type 0 where
  pub name : List ℕ
  pub text : List ℕ

abbrev pub file_text : File → FileText
file_text file = record { name = file.name.now; text = file.text.now }

-- in which column of its line a place of a text stands, from 1
abbrev pub column_at : List ℕ → ℕ → ℕ
column_at text place = column_after (take place text)

-- `FILE:LINE:COLUMN: `
abbrev pub place_words : FileText → Start → List ℕ
place_words file start =
    shown file.name ++ codes ":" ++ decimal start.line ++ codes ":" ++ decimal (column_at file.text start.place) ++ codes ": "

-- `FILE:LINE:COLUMN: KIND: WORDS`
abbrev pub lint_line : FileText → Style → Program → (ℕ → Bool) → PlacedLint → List ℕ
lint_line file style program reached placed =
    place_words file (told_at file.text program placed.point) ++ painted style hue.Remark (kind_text placed.lint) ++ codes ": "
    ++ lint_words program reached placed.point placed.lint ++ codes "\n"

-- the line of the source in which it is told
abbrev pub source_line : FileText → Style → Start → List ℕ
source_line file style start = source_at style file.text start.line start.place

-- `FILE:LINE:COLUMN: note: WORDS`, and the line of the source
abbrev pub note_begin : FileText → Style → Program → ℕ → List ℕ
note_begin file style program point =
    place_words file (stands_at file.text program point) ++ painted style hue.Note (codes "note") ++ codes ": "

abbrev pub note_end : FileText → Style → Program → ℕ → List ℕ
note_end file style program point = codes "\n" ++ source_line file style (stands_at file.text program point)

abbrev pub note_lines : FileText → Style → Program → ℕ → List ℕ → List ℕ
note_lines file style program point words = note_begin file style program point ++ words ++ note_end file style program point

-- where a way goes on from a turn
abbrev pub turn_words : Program → Hop → List ℕ
turn_words program (hop.Step x y) = codes "the way leads on to line " ++ decimal (line_at program y)
turn_words program (hop.Enter site x y) = codes "the way leads into " ++ name_at program.procedure_names (procedure_at program y)
turn_words program (hop.Pass site x callee z effect) = codes "the way leads past this call, by way of " ++ name_at program.procedure_names callee

abbrev pub turn_lines : FileText → Style → Program → Hop → List ℕ
turn_lines file style program turn = note_lines file style program (turn_point turn) (turn_words program turn)

abbrev pub left_out_words : ℕ → List ℕ
left_out_words count = if nat_eq count 1 then codes "1 more turn of the way is left out" else decimal count ++ codes " more turns of the way are left out"

-- `FILE: note: N more turns of the way are left out`, where some are
abbrev pub left_out_line : (file : List ℕ) → Style → ℕ → List ℕ
left_out_line file style count =
    if nat_eq count 0 then [] else shown file ++ codes ": " ++ painted style hue.Note (codes "note") ++ codes ": " ++ left_out_words count ++ codes "\n"

-- the turns of a way, where ways are asked for
abbrev pub way_lines : FileText → Telling → Program → Turns → List ℕ
way_lines file telling program way =
    if telling.why then flat_map (turn_lines file telling.style program) way.turns ++ left_out_line file.name telling.style way.left_out else []

-- that a variable may be used before it is set at a later point too
abbrev pub later_words : Program → ℕ → List ℕ
later_words program variable = variable_text program variable ++ codes " may be used before it is set here too"

abbrev pub later_lines : FileText → Style → Program → (variable : ℕ) → (point : ℕ) → List ℕ
later_lines file style program variable point = note_lines file style program point (later_words program variable)

-- The notes of a lint: of the first use of a variable the way there, and the later uses.
abbrev pub use_notes : FileText → Telling → Program → (ℕ → List ℕ) → (ℕ → Turns) → ℕ → List ℕ
use_notes file telling program uses ways variable =
    way_lines file telling program (ways variable) ++ flat_map (later_lines file telling.style program variable) (behind_first (uses variable))

abbrev pub lint_notes : FileText → Telling → Program → (ℕ → List ℕ) → (ℕ → Turns) → Lint → List ℕ
lint_notes file telling program uses ways lint = elim (unset_of lint) [ Some variable ↦ use_notes file telling program uses ways variable | None ↦ [] ]

-- what is known for the lines of lints: which points are reached, where variables may be used before they are set, and the ways there
pub record Known : Type 0 where
  pub reached : ℕ → Bool
  pub uses : ℕ → List ℕ
  pub ways : ℕ → Turns

-- the lines of a lint that is told as a remark
abbrev pub told_lines : FileText → Telling → Program → Known → PlacedLint → List ℕ
told_lines file telling program known placed =
    if is_remark_told telling program known.uses placed
    then lint_line file telling.style program known.reached placed
    ++ source_line file telling.style (told_at file.text program placed.point)
    ++ lint_notes file telling program known.uses known.ways placed.lint
    else []

abbrev pub untold_words : ℕ → List ℕ
untold_words count = if nat_eq count 1 then codes "1 dead assignment is not told" else decimal count ++ codes " dead assignments are not told"

abbrev pub endless_words : List ℕ → Program → Option ℕ → List ℕ
endless_words text program (Some point) = codes " (from line " ++ decimal (stands_at text program point).line ++ codes " on)"
endless_words text program None = []

-- `FILE: note: N dead assignments are not told, since the program may never end (from line L on)`
abbrev pub untold_line : FileText → Style → Program → Linted → List ℕ
untold_line file style program linted =
    shown file.name ++ codes ": " ++ painted style hue.Note (codes "note") ++ codes ": " ++ untold_words linted.left_out
    ++ codes ", since the program may never end" ++ endless_words file.text program linted.endless ++ codes "\n"

-- whether dead assignments are wanted and some are left out
abbrev pub has_untold : Telling → Linted → Bool
has_untold telling linted = telling.kinds.dead && nat_lt 0 linted.left_out

-- that line, where that is so
abbrev pub wanted_note : FileText → Telling → Program → Linted → List ℕ
wanted_note file telling program linted = if has_untold telling linted then untold_line file telling.style program linted else []

abbrev pub remark_count : ℕ → List ℕ
remark_count count = if nat_eq count 0 then codes "no remarks" else if nat_eq count 1 then codes "1 remark" else decimal count ++ codes " remarks"

-- `FILE: N remarks`
abbrev pub count_line : List ℕ → ℕ → List ℕ
count_line file count = shown file ++ codes ": " ++ remark_count count ++ codes "\n"

-- how many lints are told as remarks
abbrev pub told_count : Telling → Program → Linted → ℕ
told_count telling program linted = count_by (is_remark_told telling program (uses_told telling program linted)) linted.lints.items

abbrev pub known_of : Telling → Program → Linted → (ℕ → Bool) → (ℕ → Turns) → Known
known_of telling program linted reached ways = record { reached = reached; uses = uses_told telling program linted; ways = ways }

-- The text of a file: the lines of each lint that is told as a remark, in their order, the note on dead assignments, which is of the whole file,
-- and how many remarks there are.
abbrev pub lint_text_of : FileText → Telling → Program → (ℕ → Bool) → (ℕ → Turns) → Linted → List ℕ
lint_text_of file telling program reached ways linted =
    flat_map (told_lines file telling program (known_of telling program linted reached ways)) linted.lints.items
    ++ wanted_note file telling program linted
    ++ count_line file.name (told_count telling program linted)

-- at each point of the program: whether some valid path leads there
abbrev pub TellReached : Program → (ℕ → Bool) → Type 0
TellReached program reached = (point : ℕ) → point < point_count program → (reached point ≡ true) ↔ HasPathAt program Reach point

-- The text tells these lints of the program.
pub record IsLintText (file : FileText) (telling : Telling) (program : Program) (linted : Linted) (text : List ℕ) : Type 0 where
  pub reached : ℕ → Bool
  pub are_reached : TellReached program reached
  pub ways : ℕ → Turns
  pub are_ways : AreWays telling program linted ways
  pub is_text : text ≡ lint_text_of file telling program reached ways linted

-- The text tells what is told of the program: its lints are over the meets over all valid paths.
pub record TellsLints (file : FileText) (telling : Telling) (program : Program) (text : List ℕ) : Type 0 where
  pub linted : Linted
  pub is_linted : IsLinted program linted
  pub is_text : IsLintText file telling program linted text
