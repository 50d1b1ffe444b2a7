-- What the text of lints is written of.
use Rattle.std.specs.Prelude.{◌≡◌, ℕ, ◌<◌, Bool, Option, Some, None}
use Rattle.std.specs.List.{All}
use Rattle.flow_graph.specs.Points.{point_count}
use Rattle.flow_graph.specs.Universes.{bits}
use Rattle.flow_graph.specs.declared.analysis.Analysis.TheVariants.{Reach, Avail}
use Rattle.flow_lints.specs.declared.lint.Linted.{Linted}
use Rattle.report_answers.specs.code.Answered.{facts_in}
use Rattle.report_answers.specs.code.Reported.{Reported, TellReport}
use Rattle.flow_texts.specs.Tables.{bit_text}
use Rattle.lint_texts.specs.LintTexts.{AreWays, Known, known_of, uses_told}
use Rattle.lint_texts.specs.Starts.{starts_of}
use Rattle.lint_texts.specs.code.Uses.{AreAllTurns, TellUses, ways_in}
use Rattle.lint_texts.specs.declared.file.File.{File}
use Rattle.lint_texts.specs.declared.lines.LintLines.{LintLines}
use Rattle.lint_texts.specs.declared.telling.Telling.{Telling}
use Rattle.tac_lines.specs.Forms.{end_form, proc_form}
use Rattle.tac_program.specs.Programs.{Program}
use Rattle.text_pieces.specs.code.Lists.{AreTexts}

-- the program has the point, where there is one
abbrev pub IsPointIn : Program → Option ℕ → Type 0
IsPointIn program (Some point) = point < point_count program
IsPointIn program None = Unit {0}

-- The program has the points at which something is told.
pub record ArePlaced (program : Program) (linted : Linted) : Type 0 where
  pub lints : All (λ placed. placed.point < point_count program) linted.lints.items
  pub endless : IsPointIn program linted.endless

-- The answers tell a report on the program, which has the points of the lints, the texts are those of its expressions, and the starts those
-- of the file's text.
pub record AreLintLines (lines : LintLines) : Type 0 where
  pub answers : TellReport lines.graph.now lines.answers.now
  pub placed : ArePlaced lines.graph.now lines.linted.now
  pub expressions : AreTexts (bit_text lines.graph.now Avail) (bits lines.graph.now Avail) lines.expressions.texts
  pub openings : lines.starts.openings.items ≡ starts_of proc_form lines.file.text.now
  pub uses : TellUses lines.uses (uses_told lines.telling lines.graph.now lines.linted.now)
  pub ways : AreWays lines.telling lines.graph.now lines.linted.now (ways_in lines.ways.items)
  pub turns : (variable : ℕ) → AreAllTurns lines.graph.now (ways_in lines.ways.items variable)
  pub closings : lines.starts.closings.items ≡ starts_of end_form lines.file.text.now

-- which points are reached, as the answers tell
abbrev pub reached_in : LintLines → ℕ → Bool
reached_in lines = (facts_in lines.answers.now.replies Reach).has_path

-- what is known for the lines of lints
abbrev pub known_in : LintLines → Known
known_in lines = known_of lines.telling lines.graph.now lines.linted.now (reached_in lines) (ways_in lines.ways.items)

-- They are of this file, this program and these lints.
pub record AreOf (file : File) (telling : Telling) (program : Program) (answers : Reported) (linted : Linted) (lines : LintLines) : Type 0 where
  pub same_file : lines.file ≡ file
  pub same_telling : lines.telling ≡ telling
  pub same_graph : lines.graph.now ≡ program
  pub same_answers : lines.answers.now ≡ answers
  pub same_linted : lines.linted.now ≡ linted
