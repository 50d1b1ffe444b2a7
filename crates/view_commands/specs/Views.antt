-- What is shown of a program.
use Rattle.std.specs.Prelude.{◌≡◌, ℕ, Bool, true, false, List, [], Option, None, Some, slice_get}
use Rattle.block_dots.specs.BlockDots.{IsBlockDot}
use Rattle.call_dots.specs.CallDots.{IsCallDot}
use Rattle.json_parts.specs.JsonParts.{IsJsonPart}
use Rattle.json_texts.specs.Changes.{IsJsonChanges, named_program_line}
use Rattle.tac_program.specs.Programs.{Program}
use Rattle.flow_parts.specs.Parts.{IsPart, digest_of}
use Rattle.flow_paths.specs.Paths.{IsJsonWithPaths}
use Rattle.flow_paths.specs.Pictures.{IsDotWithPath, LacksUse}
use Rattle.flow_reports.specs.Reports.{IsReport, ListsSafely}
use Rattle.flow_views.specs.Dots.{IsDot}
use Rattle.flow_views.specs.Json.{IsJson, program_line}
use Rattle.flow_views.specs.declared.view.Chosen.{Chosen}
use Rattle.flow_views.specs.declared.view.Look.{Look}
use Rattle.flow_views.specs.declared.view.View.{View}
use Rattle.page_texts.specs.Pages.{page_of}
use Rattle.source_lines.specs.SourceLines.{IsSourced}
use Rattle.view_commands.specs.Steps.{AreLinesWithSteps, AreShownSteps, IsTooLarge, tells_rounds}
use Rattle.view_words.specs.Commands.{because_queried, look_of, name_queried, share_queried, source_queried, title_queried}
use Rattle.view_words.specs.declared.options.Format.{Format}
use Rattle.view_words.specs.declared.options.Format.TheVariants as format
use Rattle.view_words.specs.declared.options.Options.{Options}

-- The procedure of this name has this number.
abbrev pub HasProcedure : Program → List ℕ → ℕ → Type 0
HasProcedure program name number = slice_get program.procedure_names number ≡ Some name

-- All procedures are shown, or the one of the name that is asked for.
abbrev pub ShowsProcedure : Program → Option (List ℕ) → Option ℕ → Type 0
ShowsProcedure program None procedure = procedure ≡ None
ShowsProcedure program (Some name) procedure = (number : ℕ) × HasProcedure program name number × (procedure ≡ Some number)

-- A procedure is asked for by name, and no procedure of the program has that name; or none is, where rounds are asked for, which are of one.
abbrev pub LacksProcedure : (rounds : Bool) → Option (List ℕ) → Program → Type 0
LacksProcedure rounds None program = rounds ≡ true
LacksProcedure rounds (Some name) program = (number : ℕ) → ¬ (HasProcedure program name number)

-- The picture, with the path of a use where a text names one.
abbrev pub IsPicture : Option (List ℕ) → Program → View → List ℕ → Type 0
IsPicture None program view out = IsDot program view out
IsPicture (Some place) program view out = IsDotWithPath program view place out

-- The report, whose dead assignments are safe to delete, or a part of it: its number, and of how many. A part names the program's digest.
abbrev pub IsReportOrPart : Option (ℕ × ℕ) → (digest : List ℕ) → Program → List ℕ → Type 0
IsReportOrPart None digest program out = IsReport program out × ListsSafely program out
IsReportOrPart (Some share) digest program out = IsPart program digest share.1 share.0 out

-- The lines of JSON with those of a source, or a part of those of all procedures without facts.
abbrev pub IsJsonOrPart : Option (ℕ × ℕ) → (digest source : List ℕ) → Program → View → List ℕ → Type 0
IsJsonOrPart None digest source program view out = IsSourced source (program_line program) (IsJson program view) out
IsJsonOrPart (Some share) digest source program view out = IsJsonPart program digest share.1 share.0 out

-- A page around these lines, under this title.
pub record IsPage (title : Option (List ℕ)) (IsLines : List ℕ → Type 0) (out : List ℕ) : Type 0 where
  pub lines : List ℕ
  pub are_lines : IsLines lines
  pub is_page : out ≡ page_of title lines

-- What is asked for of a program: which text, with the facts of which analyses, of which procedure, with the path of which use, which part
-- of it, with the lines of the source or without, under which title, and how a picture looks.
pub record Request : Type 0 where
  pub format : Format
  pub facts : Chosen
  pub name : Option (List ℕ)
  pub because : Option (List ℕ)
  pub share : Option (ℕ × ℕ)
  pub source : Bool
  pub title : Option (List ℕ)
  pub look : Look

-- What options ask for of a program.
abbrev pub request_of : Options → Request
request_of options = record {
  format = options.format;
  facts = options.facts;
  name = name_queried options;
  because = because_queried options;
  share = share_queried options;
  source = source_queried options;
  title = title_queried options;
  look = look_of options;
}

-- The text of each format. A report is of the whole program whatever the view, and so is a part.
abbrev pub IsText : Format → Request → (digest source : List ℕ) → Program → View → List ℕ → Type 0
IsText format.Dot request digest source program view out = IsPicture request.because program view out
IsText format.Calls request digest source program view out = IsCallDot program request.look.legend out
IsText format.Blocks request digest source program view out = IsBlockDot program view out
IsText format.Json request digest source program view out = IsJsonOrPart request.share digest source program view out
IsText format.JsonPaths request digest source program view out =
    IsSourced source (program_line program) (IsJsonWithPaths false program view) out
IsText format.JsonChanges request digest source program view out =
    IsSourced source (named_program_line program) (IsJsonChanges program view) out
IsText format.Steps request digest source program view out = AreShownSteps program view out
IsText format.Report request digest source program view out = IsReportOrPart request.share digest program out
IsText format.Html request digest source program view out =
    IsPage request.title (IsSourced source (named_program_line program) (IsJsonChanges program view)) out
IsText format.HtmlPaths request digest source program view out =
    IsPage request.title (IsSourced source (named_program_line program) (IsJsonWithPaths true program view)) out
IsText format.HtmlSteps request digest source program view out = IsPage request.title (AreLinesWithSteps program view) out

-- what is shown of these procedures
abbrev pub view_for : Request → Option ℕ → View
view_for request procedure = record { facts = request.facts; procedure = procedure; look = request.look }

-- What is kept of the text that was read: its digest, which parts alone name, or the text itself, where its lines are told.
abbrev pub kept_for : Option (ℕ × ℕ) → (source : Bool) → List ℕ → List ℕ
kept_for (Some share) source text = digest_of text
kept_for None true text = text
kept_for None false text = []

-- The source whose lines are told: none beside a part.
abbrev pub source_in : Option (ℕ × ℕ) → (kept : List ℕ) → List ℕ
source_in (Some share) kept = []
source_in None kept = kept

-- What is written of a program: the text of this format, with these facts, of the procedures that are asked for.
pub record IsShownBy (request : Request) (kept : List ℕ) (program : Program) (out : List ℕ) : Type 0 where
  pub procedure : Option ℕ
  pub queried : ShowsProcedure program request.name procedure
  pub text : IsText request.format request kept (source_in request.share kept) program (view_for request procedure) out

-- the same of a program that was read from a text
abbrev pub IsShown : Request → List ℕ → Program → List ℕ → Type 0
IsShown request text = IsShownBy request (kept_for request.share request.source text)

-- The path of a use is asked for, by a text that names none of what is shown.
abbrev pub LacksNamed : Option (List ℕ) → Program → View → Type 0
LacksNamed None program view = ⊥
LacksNamed (Some place) program view = LacksUse program view place

pub record LacksRemark (request : Request) (program : Program) : Type 0 where
  pub procedure : Option ℕ
  pub queried : ShowsProcedure program request.name procedure
  pub none : LacksNamed request.because program (view_for request procedure)

-- The procedure that is asked for has too many points for what is asked for: rounds in it.
pub record HasLargeProcedure (request : Request) (program : Program) : Type 0 where
  pub procedure : Option ℕ
  pub queried : ShowsProcedure program request.name procedure
  pub large : IsTooLarge (tells_rounds request.format) program procedure
