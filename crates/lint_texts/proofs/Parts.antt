-- What is written of a file's lines is that of the file, the program and the lints that they are of.
use Rattle.std.proofs.Common.{◌≡◌, ℕ, ap, ◌∙◌, subst}
use Rattle.flow_graph.specs.declared.analysis.Analysis.TheVariants.{Reach}
use Rattle.flow_lints.specs.declared.lint.Linted.{Linted}
use Rattle.report_answers.specs.code.Reported.{Reported}
use Rattle.lint_texts.specs.LintTexts.{AreWays, FileText, IsLintText, TellReached, Turns, file_text, lint_text_of}
use Rattle.lint_texts.specs.code.Lines.{AreLintLines, AreOf, reached_in}
use Rattle.lint_texts.specs.code.Uses.{ways_in}
use Rattle.lint_texts.specs.declared.file.File.{File}
use Rattle.lint_texts.specs.declared.lines.LintLines.{LintLines}
use Rattle.lint_texts.specs.declared.telling.Telling.{Telling}
use Rattle.tac_program.specs.Programs.{Program}

module _ (file : File) (telling : Telling) (program : Program) (answers : Reported) (linted : Linted) (lines : LintLines)
    (of : AreOf file telling program answers linted lines) where
  -- what is made of them is made of those
  pub same_parts : {A : Type 0} (F : FileText → Telling → Program → Linted → A)
      → F (file_text lines.file) lines.telling lines.graph.now lines.linted.now ≡ F (file_text file) telling program linted
  same_parts F =
      ap (λ (f : File). F (file_text f) lines.telling lines.graph.now lines.linted.now) of.same_file
      ∙ ap (λ (t : Telling). F (file_text file) t lines.graph.now lines.linted.now) of.same_telling
      ∙ ap (λ (p : Program). F (file_text file) telling p lines.linted.now) of.same_graph
      ∙ ap (λ (l : Linted). F (file_text file) telling program l) of.same_linted

  -- their answers tell which points are reached
  pub tell_reached : AreLintLines lines → TellReached program (reached_in lines)
  tell_reached are = subst (λ (p : Program). TellReached p (reached_in lines)) of.same_graph (are.answers.answers.paths Reach)

  -- and the ways are theirs
  pub are_ways_of : AreLintLines lines → AreWays telling program linted (ways_in lines.ways.items)
  are_ways_of are =
      let ways : ℕ → Turns = ways_in lines.ways.items in
      subst (λ (l : Linted). AreWays telling program l ways) of.same_linted
      (subst (λ (p : Program). AreWays telling p lines.linted.now ways) of.same_graph
      (subst (λ (t : Telling). AreWays t lines.graph.now lines.linted.now ways) of.same_telling are.ways))

  pub is_written : AreLintLines lines
      → IsLintText (file_text file) telling program linted
      (lint_text_of (file_text lines.file) lines.telling lines.graph.now (reached_in lines) (ways_in lines.ways.items) lines.linted.now)
  is_written are = record {
    reached = reached_in lines;
    are_reached = tell_reached are;
    ways = ways_in lines.ways.items;
    are_ways = are_ways_of are;
    is_text = same_parts (λ f t p l. lint_text_of f t p (reached_in lines) (ways_in lines.ways.items) l);
  }
