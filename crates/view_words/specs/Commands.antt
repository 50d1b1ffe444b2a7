-- The command line, and the options that its words name.
use Rattle.std.specs.Prelude.{◌≡◌, ℕ, List, [], ◌∷◌, Bool, Option, None, Some, Result, IfOk, IfErr, codes, true, is_some, option_and_then, option_map}
use Rattle.std.specs.Prelude.{◌&&◌, ◌||◌, bytes_eq, false, not}
use Rattle.std.specs.Borrow.{Bor}
use Rattle.std.specs.Option.{option_map_or}
use Rattle.std.specs.String.{string_bytes}
use Rattle.clap.specs.Kinds.{Kinds, or_else}
use Rattle.clap.specs.Words.{App, FailsBy, Row, Text, fault_of, first_of, kind_of, matches_of, new_app, takes, with_rule}
use Rattle.clap.specs.declared.builder.possible_value.PossibleValue.{PossibleValue}
use Rattle.clap.specs.declared.error.Error.{Error}
use Rattle.clap.specs.declared.error.kind.ErrorKind.TheVariants.{ArgumentConflict, InvalidValue, OutOfMemory}
use Rattle.flow_runs.specs.Words.{AreKindsOf, NamesNumber, flag_rule, has_flag, kind_rule, limits_named, number_rule, sizes, text_rule}
use Rattle.flow_views.specs.declared.view.Look.{Look}
use Rattle.part_texts.specs.Shares.{read_share, some_share}
use Rattle.view_words.specs.Kinds.{facts_queried, facts_named, format_named, formats, with_blocks, with_calls, with_changes, with_part, with_paths, with_picture, with_source}
use Rattle.view_words.specs.Kinds.{with_steps, with_title}
use Rattle.view_words.specs.declared.options.Format.{Format}
use Rattle.view_words.specs.declared.options.Options.{Options}

-- `tacview [--format KIND] [--facts LIST] [--hide-entry] [--facts-behind] [--facts-on-hover] [--legend] [--calls] [--blocks] [--procedure NAME] [--paths]`,
-- and behind them
-- `[--changes] [--steps] [--because PLACE] [--part K/N] [--title TEXT] [--source] [--limits SIZE] [--workers N] [--cut N]`
abbrev pub form_command : Bor (List PossibleValue) → App
form_command values =
    with_rule (with_rule (new_app (codes "tacview")) (kind_rule (codes "format") (codes "dot") values)) (text_rule (codes "facts"))

abbrev pub look_command : Bor (List PossibleValue) → App
look_command values = with_rule (with_rule (form_command values) (flag_rule (codes "hide-entry"))) (flag_rule (codes "facts-behind"))

abbrev pub picture_command : Bor (List PossibleValue) → App
picture_command values = with_rule (with_rule (look_command values) (flag_rule (codes "facts-on-hover"))) (flag_rule (codes "legend"))

abbrev pub shape_command : Bor (List PossibleValue) → App
shape_command values = with_rule (with_rule (picture_command values) (flag_rule (codes "calls"))) (flag_rule (codes "blocks"))

abbrev pub view_command : Bor (List PossibleValue) → App
view_command values =
    with_rule (with_rule (with_rule (shape_command values) (text_rule (codes "procedure"))) (flag_rule (codes "paths"))) (flag_rule (codes "changes"))

abbrev pub step_command : Bor (List PossibleValue) → App
step_command values = with_rule (view_command values) (flag_rule (codes "steps"))

abbrev pub part_command : Bor (List PossibleValue) → App
part_command values =
    with_rule (with_rule (with_rule (step_command values) (text_rule (codes "because"))) (text_rule (codes "part"))) (text_rule (codes "title"))

abbrev pub source_command : Bor (List PossibleValue) → App
source_command values = with_rule (part_command values) (flag_rule (codes "source"))

abbrev pub tacview_command : Bor (List PossibleValue) → Bor (List PossibleValue) → App
tacview_command values bounds =
    with_rule (with_rule (with_rule (source_command values) (kind_rule (codes "limits") (codes "standard") bounds))
    (number_rule (codes "workers") (codes "1") 64)) (number_rule (codes "cut") (codes "64") 4096)

-- Whether paths are asked for.
abbrev pub has_paths : List Row → Bool
has_paths rows = has_flag (codes "paths") rows

-- Whether differences are asked for.
abbrev pub has_changes : List Row → Bool
has_changes rows = has_flag (codes "changes") rows

-- How a picture is to look.
abbrev pub look_queried : List Row → Look
look_queried rows = record {
  hides_entry = has_flag (codes "hide-entry") rows;
  behind = has_flag (codes "facts-behind") rows;
  hovers = has_flag (codes "facts-on-hover") rows;
  legend = has_flag (codes "legend") rows;
  changes = has_changes rows;
}

-- Whether something is asked for that pictures alone have: a path that is marked, or a look of their own. Differences are none, as lines of JSON have
-- them too.
abbrev pub has_look : Look → Bool
has_look look = look.hides_entry || look.behind || look.hovers || look.legend

abbrev pub has_picture : List Row → Bool
has_picture rows = is_some (first_of (codes "because") rows) || has_look (look_queried rows)

-- Whether the call graph is asked for.
abbrev pub has_calls : List Row → Bool
has_calls rows = has_flag (codes "calls") rows

-- Whether a word is given for an option.
abbrev pub is_given : List ℕ → List Row → Bool
is_given name rows = is_some (first_of name rows)

-- Whether no facts are asked for: by that word, or by no list.
abbrev pub shows_no_facts : List Row → Bool
shows_no_facts rows = option_map_or (λ list. bytes_eq list (codes "none")) (first_of (codes "facts") rows) true

-- Whether a look is asked for that is one of facts.
abbrev pub looks_at_facts : Look → Bool
looks_at_facts look = look.hides_entry || look.behind || look.hovers || look.changes

-- Whether nothing is asked for that a call graph has not: facts, a look of them, one procedure, or a path that is marked.
abbrev pub is_plain : List Row → Bool
is_plain rows =
    shows_no_facts rows && not (looks_at_facts (look_queried rows)) && not (is_given (codes "procedure") rows) && not (is_given (codes "because") rows)

-- Whether blocks are asked for.
abbrev pub has_blocks : List Row → Bool
has_blocks rows = has_flag (codes "blocks") rows

-- Whether nothing is asked for that blocks have not: differences, sets behind statements, or a path that is marked.
abbrev pub looks_at_points : Look → Bool
looks_at_points look = look.behind || look.changes

abbrev pub fits_blocks : List Row → Bool
fits_blocks rows = not (looks_at_points (look_queried rows)) && not (is_given (codes "because") rows)

-- Whether rounds are asked for.
abbrev pub has_steps : List Row → Bool
has_steps rows = has_flag (codes "steps") rows

-- Whether one procedure is asked for.
abbrev pub has_procedure : List Row → Bool
has_procedure rows = is_given (codes "procedure") rows

-- Whether a part is asked for.
abbrev pub has_part : List Row → Bool
has_part rows = is_some (first_of (codes "part") rows)

-- Whether all procedures are asked for, and no facts by that word.
abbrev pub is_bare : List Row → Bool
is_bare rows =
    option_map_or (λ list. bytes_eq list (codes "none")) (first_of (codes "facts") rows) false && not (is_some (first_of (codes "procedure") rows))

-- Whether the lines of the source are asked for.
abbrev pub has_source : List Row → Bool
has_source rows = has_flag (codes "source") rows

-- Whether a title is asked for.
abbrev pub has_title : List Row → Bool
has_title rows = is_some (first_of (codes "title") rows)

-- The format that is asked for, with paths or without, with differences or with sets; None where it has none.
abbrev pub lines_format : List Row → Option Format
lines_format rows =
    option_and_then (with_changes (has_changes rows))
    (option_and_then (with_paths (has_paths rows)) (option_and_then format_named (first_of (codes "format") rows)))

-- The same with what pictures alone have or without; None where it has none.
abbrev pub shown_format : List Row → Option Format
shown_format rows = option_and_then (with_picture (has_picture rows)) (lines_format rows)

-- The same of points or of calls; None where it has none.
abbrev pub call_format : List Row → Option Format
call_format rows = option_and_then (with_calls (has_calls rows) (is_plain rows)) (shown_format rows)

-- The same of points, calls or blocks; None where it has none.
abbrev pub block_format : List Row → Option Format
block_format rows = option_and_then (with_blocks (has_blocks rows) (fits_blocks rows)) (call_format rows)

-- The same with rounds or without; None where it has none.
abbrev pub step_format : List Row → Option Format
step_format rows = option_and_then (with_steps (has_steps rows) (has_procedure rows)) (block_format rows)

-- The same, whole or a part of it; None where it has none.
abbrev pub part_format : List Row → Option Format
part_format rows = option_and_then (with_part (has_part rows) (is_bare rows)) (step_format rows)

-- The same, with the lines of the source or without; None where it has none.
abbrev pub source_format : List Row → Option Format
source_format rows = option_and_then (with_source (has_source rows) (has_part rows)) (part_format rows)

-- The format that is asked for, with a title or without; None where it has none.
abbrev pub format_queried : List Row → Option Format
format_queried rows = option_and_then (with_title (has_title rows)) (source_format rows)

-- The name of the procedure that is asked for.
abbrev pub name_queried : Options → Option (List ℕ)
name_queried options = option_map string_bytes options.asked.procedure

-- The place of the use whose path is marked.
abbrev pub because_queried : Options → Option (List ℕ)
because_queried options = option_map string_bytes options.asked.because

-- The title of the page.
abbrev pub title_queried : Options → Option (List ℕ)
title_queried options = option_map string_bytes options.asked.title

-- Whether the lines of the source stand in the text.
abbrev pub source_queried : Options → Bool
source_queried options = options.asked.source

-- How its picture looks.
abbrev pub look_of : Options → Look
look_of options = options.asked.look

-- The part that is asked for.
abbrev pub share_queried : Options → Option (ℕ × ℕ)
share_queried options = some_share options.asked.share

-- The part that words name, or the whole where there are none; None where they name no part.
abbrev pub known_share : Option Text → Option (Option (ℕ × ℕ))
known_share None = Some None
known_share (Some words) = option_map Some (read_share words)

-- The matches name these options.
pub record NamesOptions (rows : List Row) (options : Options) : Type 0 where
  pub named_format : format_queried rows ≡ Some options.format
  pub named_facts : facts_queried options.format (first_of (codes "facts") rows) ≡ Some options.facts
  pub named_procedure : name_queried options ≡ first_of (codes "procedure") rows
  pub named_because : because_queried options ≡ first_of (codes "because") rows
  pub named_title : title_queried options ≡ first_of (codes "title") rows
  pub named_share : known_share (first_of (codes "part") rows) ≡ Some (share_queried options)
  pub named_source : source_queried options ≡ has_source rows
  pub named_look : look_of options ≡ look_queried rows
  pub named_limits : option_and_then limits_named (first_of (codes "limits") rows) ≡ Some options.limits
  pub named_workers : NamesNumber rows (codes "workers") options.workers
  pub named_cut : NamesNumber rows (codes "cut") options.cut

-- Whether the list of facts, where there is one, names facts. `clap` takes any text for it.
abbrev pub knows_facts : List Row → Bool
knows_facts rows = option_map_or (λ list. is_some (facts_named list)) (first_of (codes "facts") rows) true

-- Whether the words for a part, where there are some, name one.
abbrev pub knows_share : List Row → Bool
knows_share rows = is_some (known_share (first_of (codes "part") rows))

-- The kinds of errors for options that `clap` takes: paths, differences or rounds with a format that has none, or rounds without a procedure, or what
-- pictures alone have, or a call graph with what it has not, or a part, the lines of the source, or a title, and a list that names no facts, or words
-- that name no part.
abbrev pub kinds_of : Bool → Bool → Kinds
kinds_of false known = ArgumentConflict ∷ []
kinds_of true false = InvalidValue ∷ []
kinds_of true true = []

abbrev pub option_kinds : List Row → Kinds
option_kinds rows = kinds_of (is_some (format_queried rows)) (knows_facts rows && knows_share rows)

-- What is answered to the words: the options that the command's matches name, or an error. The
-- command holds the words of formats and of limits by reference, and where they lie is left open.
pub record AnswersWords (words : List Text) (answer : Result Options Error) : Type 0 where
  pub values : Bor (List PossibleValue)
  pub bounds : Bor (List PossibleValue)
  pub are_formats : AreKindsOf formats values.now
  pub are_limits : AreKindsOf sizes bounds.now
  pub named : IfOk answer (NamesOptions (matches_of (tacview_command values bounds) words))
  pub refused : IfErr answer (λ e. takes (tacview_command values bounds) words ≡ true
      → option_kinds (matches_of (tacview_command values bounds) words) ≡ [] → kind_of e ≡ OutOfMemory)
  pub faults : FailsBy (or_else (fault_of (tacview_command values bounds) words)
      (option_kinds (matches_of (tacview_command values bounds) words))) answer
