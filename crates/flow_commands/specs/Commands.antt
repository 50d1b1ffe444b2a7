-- The command line, and the options that its words name.
use Rattle.std.specs.Prelude.{◌≡◌, List, Some, Result, IfOk, IfErr, codes, true, option_and_then}
use Rattle.std.specs.Borrow.{Bor}
use Rattle.clap.specs.Words.{App, FailsBy, Row, Text, fault_of, first_of, kind_of, matches_of, new_app, takes, with_rule}
use Rattle.clap.specs.declared.builder.possible_value.PossibleValue.{PossibleValue}
use Rattle.clap.specs.declared.error.Error.{Error}
use Rattle.clap.specs.declared.error.kind.ErrorKind.TheVariants.{OutOfMemory}
use Rattle.flow_runs.specs.Words.{AreKindsOf, NamesNumber, kind_rule, number_rule}
use Rattle.flow_commands.specs.Kinds.{kinds, show_named}
use Rattle.flow_commands.specs.declared.options.Options.{Options}

-- `tacflow [--workers N] [--cut N] [--show KIND]`
abbrev pub tacflow_command : Bor (List PossibleValue) → App
tacflow_command values =
    with_rule (with_rule (with_rule (new_app (codes "tacflow"))
    (number_rule (codes "workers") (codes "1") 64)) (number_rule (codes "cut") (codes "64") 4096))
    (kind_rule (codes "show") (codes "report") values)

-- The matches name these options.
pub record NamesOptions (rows : List Row) (options : Options) : Type 0 where
  pub named_workers : NamesNumber rows (codes "workers") options.workers
  pub named_cut : NamesNumber rows (codes "cut") options.cut
  pub named_show : option_and_then show_named (first_of (codes "show") rows) ≡ Some options.show

-- What is answered to the words: the options that the command's matches name, or an error. The
-- command holds the kinds by reference, and where they lie is left open.
pub record AnswersWords (words : List Text) (answer : Result Options Error) : Type 0 where
  pub values : Bor (List PossibleValue)
  pub are_kinds : AreKindsOf kinds values.now
  pub named : IfOk answer (NamesOptions (matches_of (tacflow_command values) words))
  pub refused : IfErr answer (λ e. takes (tacflow_command values) words ≡ true → kind_of e ≡ OutOfMemory)
  pub faults : FailsBy (fault_of (tacflow_command values) words) answer
