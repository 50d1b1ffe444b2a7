-- What a program is: procedures, statements and names. A variable, a procedure and a label are held by number, which is its place among
-- their names.
use Rattle.std.specs.Prelude.{ℕ, List, map, position, unwrap_or, bytes_eq}
use Rattle.std.specs.List.Sorted.{IsNonDecreasing}
use Rattle.tac_program.specs.declared.program.Label.{Label}
use Rattle.tac_program.specs.declared.program.Stmt.{Stmt}

-- A procedure: its number, its labels with their names, and its statements.
pub record Procedure : Type 0 where
  pub name : ℕ
  pub labels : List Label
  pub label_names : List (List ℕ)
  pub statements : List Stmt

-- Labels in text order stand for places that do not fall.
abbrev pub LabelsRise : List Label → Type 0
LabelsRise labels = IsNonDecreasing (map (λ l. l.place) labels)

-- A program: its procedures in text order with their names, and the names of its variables by first occurrence.
pub record Program : Type 0 where
  pub procedures : List Procedure
  pub procedure_names : List (List ℕ)
  pub variable_names : List (List ℕ)

-- The number of a name. One that is not there has 0: no text without faults comes to that.
abbrev pub number_of : List (List ℕ) → List ℕ → ℕ
number_of names x = unwrap_or (position (bytes_eq x) names) 0
