-- Where procedures begin and end in a text: at their `proc` and at their `end`. A program keeps no such place, so it is the text's own.
use Rattle.std.specs.Prelude.{ℕ, ◌+◌, List, [], ◌∷◌, ◌++◌, length, get_or, nat_lt, if◌then◌else◌, Some, None}
use Rattle.flow_graph.specs.Points.{procedure_at, statement_at}
use Rattle.lint_texts.specs.declared.starts.Start.{Start}
use Rattle.tac_lines.specs.Forms.{Slot, end_form, has_form, proc_form}
use Rattle.tac_lines.specs.Tokens.{Row, Token, rows}
use Rattle.tac_program.specs.Limits.{longest_text}
use Rattle.tac_program.specs.Programs.{Program}
use Rattle.tac_program.specs.declared.limits.Limits.TheVariants.{Large}
use Rattle.tac_program.specs.declared.program.Stmt.{Stmt}

-- where the line of this number begins, by its tokens
abbrev pub line_start : ℕ → List Token → Start
line_start line [] = record { line = line; place = 0 }
line_start line (t ∷ ts) = record { line = line; place = t.start }

-- where those lines begin that have a form, of lines that are numbered from this one on
abbrev pub starts_from : List Slot → ℕ → List Row → List Start
starts_from form line [] = []
starts_from form line (row ∷ others) =
    (if has_form form row.tokens then line_start line row.tokens ∷ [] else []) ++ starts_from form (line + 1) others

-- where they begin in a text; none where it is longer than any program's
abbrev pub starts_of : List Slot → List ℕ → List Start
starts_of form text = if nat_lt (longest_text Large) (length text) then [] else starts_from form 1 (rows text)

-- where each procedure begins, and where it ends
abbrev pub opening_of : List ℕ → ℕ → Start
opening_of text procedure = get_or (starts_of proc_form text) procedure (record { line = 1; place = 0 })

abbrev pub closing_of : List ℕ → ℕ → Start
closing_of text procedure = get_or (starts_of end_form text) procedure (record { line = 1; place = 0 })

abbrev pub statement_start : Stmt → Start
statement_start statement = record { line = statement.span.line; place = statement.span.start }

-- Where a lint at a point is told: where the statement there begins, and for a procedure that has none at its `proc`.
abbrev pub told_at : List ℕ → Program → ℕ → Start
told_at text program point = elim (statement_at program point) [
  | Some statement ↦ statement_start statement
  | None ↦ opening_of text (procedure_at program point)
]

-- where a point stands: where the statement there begins, and at the end of a procedure at its `end`
abbrev pub stands_at : List ℕ → Program → ℕ → Start
stands_at text program point = elim (statement_at program point) [
  | Some statement ↦ statement_start statement
  | None ↦ closing_of text (procedure_at program point)
]
