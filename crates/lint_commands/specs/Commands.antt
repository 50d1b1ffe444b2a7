-- The command line, and the options that its words name.
use Rattle.std.specs.Prelude.{◌≡◌, List, [], ◌∷◌, Bool, Some, Result, IfOk, IfErr, codes, true, false, is_some, map, unwrap_or}
use Rattle.std.specs.Prelude.{option_and_then, option_map}
use Rattle.std.specs.Borrow.{Bor}
use Rattle.std.specs.Option.{option_map_or}
use Rattle.std.specs.String.{string_bytes}
use Rattle.clap.specs.Kinds.{Kinds, or_else}
use Rattle.clap.specs.Words.{App, FailsBy, Row, Rule, Text, all_of, fault_of, first_of, kind_of, matches_of, new_app, new_rule, takes, with_rule}
use Rattle.clap.specs.declared.builder.action.ArgAction.TheVariants.{Append}
use Rattle.clap.specs.declared.builder.possible_value.PossibleValue.{PossibleValue}
use Rattle.clap.specs.declared.error.Error.{Error}
use Rattle.clap.specs.declared.error.kind.ErrorKind.TheVariants.{InvalidValue, OutOfMemory}
use Rattle.flow_runs.specs.Words.{AreKindsOf, NamesNumber, flag_rule, has_flag, kind_rule, limits_named, number_rule, sizes, text_rule}
use Rattle.lint_commands.specs.Kinds.{coloring_named, colorings, form_named, forms, kinds_named, kinds_queried}
use Rattle.lint_commands.specs.declared.options.Options.{Options}

-- words that are no options, as many as there are
abbrev pub words_rule : Text → Rule
words_rule name = record (new_rule name) { value_names = 1; action = Some Append }

-- `taclint [--limits SIZE] [--kinds LIST] [--procedure NAME] [--why] [--format FORM] [--source] [--color WHEN] [--error] [--workers N] [FILE ..]`
abbrev pub kinds_command : Bor (List PossibleValue) → App
kinds_command bounds =
    with_rule (with_rule (with_rule (new_app (codes "taclint")) (kind_rule (codes "limits") (codes "standard") bounds)) (text_rule (codes "kinds")))
    (text_rule (codes "procedure"))

abbrev pub form_command : Bor (List PossibleValue) → Bor (List PossibleValue) → App
form_command bounds shapes = with_rule (with_rule (kinds_command bounds) (flag_rule (codes "why"))) (kind_rule (codes "format") (codes "text") shapes)

abbrev pub style_command : Bor (List PossibleValue) → Bor (List PossibleValue) → Bor (List PossibleValue) → App
style_command bounds shapes colors =
    with_rule (with_rule (form_command bounds shapes) (flag_rule (codes "source"))) (kind_rule (codes "color") (codes "auto") colors)

abbrev pub taclint_command : Bor (List PossibleValue) → Bor (List PossibleValue) → Bor (List PossibleValue) → App
taclint_command bounds shapes colors =
    with_rule (with_rule (with_rule (style_command bounds shapes colors) (flag_rule (codes "error"))) (number_rule (codes "workers") (codes "1") 64))
    (words_rule (codes "files"))

-- The files that are asked for, in their order.
abbrev pub files_queried : List Row → List Text
files_queried rows = unwrap_or (all_of (codes "files") rows) []

-- The matches name these options.
pub record NamesOptions (rows : List Row) (options : Options) : Type 0 where
  pub named_limits : option_and_then limits_named (first_of (codes "limits") rows) ≡ Some options.limits
  pub named_kinds : kinds_queried (first_of (codes "kinds") rows) ≡ Some options.kinds
  pub named_procedure : first_of (codes "procedure") rows ≡ option_map string_bytes options.procedure
  pub named_why : has_flag (codes "why") rows ≡ options.why
  pub named_format : option_and_then form_named (first_of (codes "format") rows) ≡ Some options.format
  pub named_source : has_flag (codes "source") rows ≡ options.source
  pub named_color : option_and_then coloring_named (first_of (codes "color") rows) ≡ Some options.color
  pub named_error : has_flag (codes "error") rows ≡ options.error
  pub named_workers : NamesNumber rows (codes "workers") options.workers
  pub named_files : files_queried rows ≡ map string_bytes options.files.items

-- Whether the list of kinds, where there is one, names kinds. `clap` takes any text for it.
abbrev pub knows_kinds : List Row → Bool
knows_kinds rows = option_map_or (λ list. is_some (kinds_named list)) (first_of (codes "kinds") rows) true

-- The kind of error for options that `clap` takes: a list that names no kinds.
abbrev pub kinds_of : Bool → Kinds
kinds_of false = InvalidValue ∷ []
kinds_of true = []

abbrev pub option_kinds : List Row → Kinds
option_kinds rows = kinds_of (knows_kinds rows)

-- What is answered to the words: the options that the command's matches name, or an error. The command holds the words of limits, of forms and
-- of colours by reference, and where they lie is left open.
pub record AnswersWords (words : List Text) (answer : Result Options Error) : Type 0 where
  pub bounds : Bor (List PossibleValue)
  pub shapes : Bor (List PossibleValue)
  pub colors : Bor (List PossibleValue)
  pub are_limits : AreKindsOf sizes bounds.now
  pub are_forms : AreKindsOf forms shapes.now
  pub are_colorings : AreKindsOf colorings colors.now
  pub named : IfOk answer (NamesOptions (matches_of (taclint_command bounds shapes colors) words))
  pub refused : IfErr answer (λ e. takes (taclint_command bounds shapes colors) words ≡ true
      → option_kinds (matches_of (taclint_command bounds shapes colors) words) ≡ [] → kind_of e ≡ OutOfMemory)
  pub faults : FailsBy (or_else (fault_of (taclint_command bounds shapes colors) words) (option_kinds (matches_of (taclint_command bounds shapes colors) words)))
      answer
