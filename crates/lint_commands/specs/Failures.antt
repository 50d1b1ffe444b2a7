-- The line on standard error for each fault of a file.
use Rattle.std.specs.Prelude.{ℕ, List, [], ◌++◌, codes, decimal}
use Rattle.flow_graph.specs.declared.fault.GraphFault.{GraphFault}
use Rattle.flow_graph.specs.declared.fault.GraphFault.TheVariants.{TooManyPoints, TooManyBits, OutOfMemory}
use Rattle.flow_runs.specs.FaultLines.{fault_text}
use Rattle.flow_runs.specs.declared.fault.Fault.{Fault}
use Rattle.flow_runs.specs.declared.fault.Fault.TheVariants as fault
use Rattle.lint_styles.specs.Styles.{shown}
use Rattle.tac_program.specs.Limits.{most_definitions, most_expressions, most_points, most_variables}
use Rattle.tac_program.specs.declared.limits.Limits.{Limits}
use Rattle.tac_program.specs.declared.limits.Limits.TheVariants.{Standard, Large}

-- where a larger program is taken
abbrev pub larger_words : Limits → List ℕ
larger_words Standard = codes "; --limits large takes more"
larger_words Large = []

-- Of a program that has no graph: of what it has too many, and how many it may have. A definition is an assignment, or a variable's value at the
-- beginning.
abbrev pub graph_words : Limits → GraphFault → List ℕ
graph_words limits TooManyPoints =
    codes "the program has more than " ++ decimal (most_points limits) ++ codes " points: each statement has one, and each `end` (refusal 21)"
    ++ larger_words limits
graph_words limits TooManyBits =
    codes "the program has more than " ++ decimal (most_variables limits) ++ codes " variables, " ++ decimal (most_expressions limits)
    ++ codes " expressions, or " ++ decimal (most_definitions limits) ++ codes " variables and assignments together (refusal 22)"
    ++ larger_words limits
graph_words limits OutOfMemory = codes "out of memory"

abbrev pub failed_words : Limits → Fault → List ℕ
failed_words limits (fault.Graph cause) = graph_words limits cause
failed_words limits f = fault_text f

-- `FILE: WORDS`
abbrev pub failed_line : Limits → (file : List ℕ) → Fault → List ℕ
failed_line limits file f = shown file ++ (codes ": " ++ failed_words limits f ++ codes "\n")
