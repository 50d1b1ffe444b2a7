-- What was found of a program, and the remarks that are made of it.
use Rattle.std.specs.Prelude.{◌≡◌, ◌↔◌, ℕ, ◌<◌, ◌++◌, Bool, true, false, List, [], length, get_or, codes}
use Rattle.flow_graph.specs.Analyses.{shape_of}
use Rattle.flow_graph.specs.Limits.{HasFewPoints}
use Rattle.tac_program.specs.declared.limits.Limits.TheVariants.{Large}
use Rattle.flow_graph.specs.Points.{point_count}
use Rattle.flow_graph.specs.Runs.{IsDoubtful}
use Rattle.flow_graph.specs.Universes.{bits}
use Rattle.flow_graph.specs.declared.analysis.Analysis.TheVariants.{Reach, Live, Avail, Busy}
use Rattle.tac_program.specs.Programs.{Program}
use Rattle.tac_program.specs.Sound.{IsSound}
use Rattle.text_pieces.specs.code.Lists.{AreTexts}
use Rattle.flow_reports.specs.Reports.{Knowledge, remark_text}
use Rattle.flow_texts.specs.Tables.{bit_text, variable_text}
use Rattle.report_answers.specs.code.Reported.{TellChosen, TellReport, busy_facts}
use Rattle.report_answers.specs.code.Answered.{facts_in}
use Rattle.flow_reports.specs.declared.findings.Findings.{Findings}
use Rattle.flow_reports.specs.declared.remark.Remark.{Remark}
use Rattle.flow_reports.specs.declared.remark.Remark.TheVariants.{NeverReached, Unset, Computed, VeryBusy, Dead}

-- one truth value for each point: whether it is doubtful
pub record TellDoubtful (program : Program) (doubtful : List Bool) : Type 0 where
  pub count : length doubtful ≡ point_count program
  pub each : (point : ℕ) → point < point_count program → (get_or doubtful point false ≡ true) ↔ IsDoubtful (shape_of program) point

-- The answers tell a report on the program, which is sound and has few points, there is one truth value for each point, and the texts are
-- those of the program's expressions.
pub record AreFindings (found : Findings) : Type 0 where
  pub sound : IsSound found.graph.now
  pub few : HasFewPoints Large found.graph.now
  pub answers : TellReport found.graph.now found.answers.now
  pub doubts : length found.doubtful.items ≡ point_count found.graph.now
  pub expressions : AreTexts (bit_text found.graph.now Avail) (bits found.graph.now Avail) found.expressions.texts

-- The same of answers that tell what was chosen of a report.
pub record AreChosenFindings (found : Findings) : Type 0 where
  pub sound : IsSound found.graph.now
  pub few : HasFewPoints Large found.graph.now
  pub answers : TellChosen found.answers.now.chosen found.graph.now found.answers.now
  pub doubts : length found.doubtful.items ≡ point_count found.graph.now
  pub expressions : AreTexts (bit_text found.graph.now Avail) (bits found.graph.now Avail) found.expressions.texts

-- what they tell, as far as they were asked
abbrev pub knowledge_of : Findings → Knowledge
knowledge_of found = record {
  reach = facts_in found.answers.now.replies Reach;
  live = facts_in found.answers.now.replies Live;
  avail = facts_in found.answers.now.replies Avail;
  busy = busy_facts found.answers.now;
  doubtful = λ point. get_or found.doubtful.items point false;
}

-- the variable or the expression that a remark names is there
abbrev pub IsRemarkIn : Program → Remark → Type 0
IsRemarkIn program NeverReached = Unit {0}
IsRemarkIn program (Unset variable) = variable < length program.variable_names
IsRemarkIn program (Computed bit) = bit < bits program Avail
IsRemarkIn program (VeryBusy bit) = bit < bits program Busy
IsRemarkIn program (Dead variable) = variable < length program.variable_names

-- what a remark names, and what it says before and behind the name
abbrev pub remark_name : Program → Remark → List ℕ
remark_name program NeverReached = []
remark_name program (Unset variable) = variable_text program variable
remark_name program (Computed bit) = bit_text program Avail bit
remark_name program (VeryBusy bit) = bit_text program Busy bit
remark_name program (Dead variable) = variable_text program variable

abbrev pub words_before : Remark → List ℕ
words_before NeverReached = codes "never reached"
words_before (Dead variable) = codes "assignment to "
words_before _ = []

abbrev pub words_behind : Remark → List ℕ
words_behind NeverReached = []
words_behind (Unset variable) = codes " may be used before it is set"
words_behind (Computed bit) = codes " is already computed"
words_behind (VeryBusy bit) = codes " is very busy"
words_behind (Dead variable) = codes " is dead"

-- a remark's line behind what it begins with
abbrev pub line_behind : List ℕ → Program → Remark → List ℕ
line_behind head program remark = head ++ remark_text program remark ++ codes "\n"
