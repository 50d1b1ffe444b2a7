-- What a linter makes of the text of a file.
use Rattle.std.specs.Prelude.{◌≡◌, ◌⊎◌, ℕ, Bool, true, false, List, Option, Result, Ok, Err, None, Some, option_map, slice_get}
use Rattle.std.specs.Io.KnownBytes.{Appends, Keeps}
use Rattle.std.specs.List.{list_any}
use Rattle.flow_graph.specs.Limits.{HasFewBits, HasFewPoints}
use Rattle.flow_lints.specs.Lints.{IsLinted}
use Rattle.flow_lints.specs.declared.lint.Linted.{Linted}
use Rattle.flow_runs.specs.Runs.{PullsAll}
use Rattle.flow_runs.specs.declared.fault.Fault.{Fault}
use Rattle.flow_runs.specs.declared.fault.Fault.TheVariants as fault
use Rattle.lint_commands.specs.declared.options.Form.{Form}
use Rattle.lint_commands.specs.declared.options.Form.TheVariants as form
use Rattle.lint_commands.specs.declared.runs.Asked.{Asked}
use Rattle.lint_commands.specs.declared.runs.Request.{Request}
use Rattle.lint_commands.specs.declared.runs.Wish.{Wish}
use Rattle.lint_commands.specs.declared.told.Told.{Told}
use Rattle.lint_commands.specs.declared.told.Told.TheVariants as told
use Rattle.lint_json.specs.LintJson.{IsLintJson}
use Rattle.lint_json.specs.RefusalJson.{refusal_json_of}
use Rattle.lint_styles.specs.declared.style.Style.{Style}
use Rattle.lint_texts.specs.LintTexts.{FileText, IsLintText, file_text, is_told}
use Rattle.lint_texts.specs.declared.kinds.Kinds.{Kinds}
use Rattle.lint_texts.specs.declared.telling.Telling.{Telling}
use Rattle.refusal_texts.specs.RefusalTexts.{refusal_text_of, told_within}
use Rattle.refusal_texts.specs.declared.told.ToldRefusal.{ToldRefusal}
use Rattle.tac_lines.specs.declared.refusal.Refusal.{Refusal}
use Rattle.tac_program.specs.Programs.{Program}
use Rattle.tac_program.specs.declared.limits.Limits.{Limits}
use Rattle.tac_reader.specs.Faults.{refusal_within}
use Rattle.tac_reader.specs.Parses.{program_of}
use Rattle.text_pieces.specs.Devices.{AppendsBeginning}

-- What is asked for of a file that was read: how large it may be, which kinds of lints are told, of which procedure, in which form, and how,
-- what the file is called, and its text.
pub record Wanted : Type 0 where
  pub limits : Limits
  pub kinds : Kinds
  pub name : Option (List ℕ)
  pub why : Bool
  pub form : Form
  pub style : Style
  pub file : FileText

-- the name of the procedure that is asked for
abbrev pub name_asked : Request → Option (List ℕ)
name_asked request = option_map (λ name. name.now) request.procedure

abbrev pub wanted_by : Limits → Request → FileText → Wanted
wanted_by limits request file =
    record { limits = limits; kinds = request.kinds; name = name_asked request; why = request.why; form = request.form; style = request.style; file = file }

abbrev pub wanted : Wish → List ℕ → Wanted
wanted wish text = wanted_by wish.limits wish.request (record { name = wish.name.now; text = text })

abbrev pub wanted_of : Asked → Wanted
wanted_of asked = wanted_by asked.limits asked.request (file_text asked.file)

-- The procedure of this name has this number.
abbrev pub HasProcedure : Program → List ℕ → ℕ → Type 0
HasProcedure program name number = slice_get program.procedure_names number ≡ Some name

-- The lints of all procedures are told, or of the one of the name that is asked for.
abbrev pub ShowsProcedure : Program → Option (List ℕ) → Option ℕ → Type 0
ShowsProcedure program None procedure = procedure ≡ None
ShowsProcedure program (Some name) procedure = (number : ℕ) × HasProcedure program name number × (procedure ≡ Some number)

-- A procedure is asked for by name, and no procedure of the program has that name.
abbrev pub LacksProcedure : Option (List ℕ) → Program → Type 0
LacksProcedure None program = ⊥
LacksProcedure (Some name) program = (number : ℕ) → ¬ (HasProcedure program name number)

-- what is told of a program where that procedure has this number
abbrev pub telling_by : Kinds → (why : Bool) → Style → Option ℕ → Telling
telling_by kinds why style procedure = record { kinds = kinds; procedure = procedure; why = why; style = style }

abbrev pub telling_of : Wanted → Option ℕ → Telling
telling_of w = telling_by w.kinds w.why w.style

abbrev pub told_by : Bool → Told
told_by true = told.Remarks
told_by false = told.Nothing

-- whether one of the lints is told
abbrev pub has_told : Telling → Program → Linted → Bool
has_told telling program linted = list_any (is_told telling program) linted.lints.items

-- The text is in this form what is told of a program's lints.
abbrev pub IsTextOf : Form → FileText → Telling → Program → Linted → List ℕ → Type 0
IsTextOf form.Text = IsLintText
IsTextOf form.Json = IsLintJson

-- what is told of a text that is refused, in this form
abbrev pub errors_text : Form → Style → FileText → List ToldRefusal → List ℕ
errors_text form.Text style file told = refusal_text_of style file.name file.text told
errors_text form.Json style file told = refusal_json_of file.name file.text told

-- The text is what a linter writes of a program, and whether it has a remark is what is told.
pub record Lints (form : Form) (file : FileText) (telling : Telling) (program : Program) (what : Told) (out : List ℕ) : Type 0 where
  pub linted : Linted
  pub is_linted : IsLinted program linted
  pub is_text : IsTextOf form file telling program linted out
  pub is_told : what ≡ told_by (has_told telling program linted)

-- The program has a graph within the limits and the procedure that is asked for, and this is written of it.
pub record LintsWithin (w : Wanted) (program : Program) (what : Told) (out : List ℕ) : Type 0 where
  pub few_points : HasFewPoints w.limits program
  pub few_bits : HasFewBits w.limits program
  pub procedure : Option ℕ
  pub asked : ShowsProcedure program w.name procedure
  pub lints : Lints w.form w.file (telling_of w procedure) program what out

-- The file's text is a program, and this is written of it.
pub record TellsProgram (w : Wanted) (what : Told) (out : List ℕ) : Type 0 where
  pub faultless : refusal_within w.limits w.file.text ≡ None
  pub lints : LintsWithin w (program_of w.file.text) what out

-- Errors are told, and these are all that is wrong with the text.
pub record HasErrors (w : Wanted) (what : Told) (out : List ℕ) : Type 0 where
  pub are_errors : what ≡ told.Errors
  pub is_text : out ≡ errors_text w.form w.style w.file (told_within w.limits w.file.text)

-- The file's text is refused, and this is written of it.
pub record TellsErrors (w : Wanted) (what : Told) (out : List ℕ) : Type 0 where
  pub refusal : Refusal
  pub refused : refusal_within w.limits w.file.text ≡ Some refusal
  pub errors : HasErrors w what out

-- What is told of a file and written of it.
abbrev pub Tells : Wanted → Told → List ℕ → Type 0
Tells w what out = TellsProgram w what out ⊎ TellsErrors w what out

-- Of an answer to the wish to write a text, of a kind that the answer tells: at Ok such a text was written, at a fault of the sink a
-- beginning of one, and at every other fault nothing.
abbrev pub DeliversBy : {T : Type 0} → (T → List ℕ → Type 0) → Option (List ℕ) → Option (List ℕ) → Result T Fault → Type 0
DeliversBy IsText held holds (Ok x) = (out : List ℕ) × IsText x out × Appends held holds out
DeliversBy {T} IsText held holds (Err fault.Write) = (x : T) × (out : List ℕ) × IsText x out × AppendsBeginning held holds out
DeliversBy IsText held holds (Err _) = Keeps held holds

-- The whole text was pulled, and this was written of it and nothing else.
pub record WritesTold (wish : Wish) (before after : Option (List ℕ)) (ended : Bool) (held holds : Option (List ℕ)) (what : Told) : Type 0 where
  pub text : List ℕ
  pub out : List ℕ
  pub pulls : PullsAll wish.limits before after ended text
  pub tells : Tells (wanted wish text) what out
  pub writes : Appends held holds out

-- The whole text was pulled, and a beginning of that was written.
pub record WritesBeginning (wish : Wish) (before after : Option (List ℕ)) (ended : Bool) (held holds : Option (List ℕ)) : Type 0 where
  pub text : List ℕ
  pub what : Told
  pub out : List ℕ
  pub pulls : PullsAll wish.limits before after ended text
  pub tells : Tells (wanted wish text) what out
  pub writes : AppendsBeginning held holds out
