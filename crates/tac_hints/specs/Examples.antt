-- What worked texts are compared with.
use Rattle.std.specs.Prelude.{ℕ, List, ◌++◌, codes}
use Rattle.tac_lines.specs.declared.refusal.Refusal.{Refusal}
use Rattle.tac_lines.specs.declared.refusal.RefusalKind.{RefusalKind}
use Rattle.tac_program.specs.declared.limits.Limits.TheVariants.{Standard}
use Rattle.tac_hints.specs.Texts.{hint_of}
use Rattle.tac_faults.specs.declared.slips.Hint.{Hint}

abbrev pub refused : RefusalKind → ℕ → ℕ → Refusal
refused kind line column = record { kind = kind; line = line; column = column }

-- The line is the second one of a procedure's three.
abbrev pub in_main : List ℕ → List ℕ
in_main line = codes "proc main\n" ++ line ++ codes "\nend\n"

-- What is told of a fault of that line, at a column.
abbrev pub hint_at : RefusalKind → ℕ → List ℕ → Hint
hint_at kind column line = hint_of Standard (in_main line) (refused kind 2 column)
