-- The lines of a part of what was found are those of all that is known.
use Rattle.std.proofs.Common.{◌++◌, List, ℕ, sym, subst}
use Rattle.flow_parts.specs.code.Bits.{AreOfPart}
use Rattle.flow_parts.proofs.ChosenRemarks.{same_part}
use Rattle.flow_reports.specs.Reports.{Knowledge}
use Rattle.flow_reports.specs.code.Findings.{AreChosenFindings, TellDoubtful, knowledge_of}
use Rattle.flow_reports.specs.declared.findings.Findings.{Findings}
use Rattle.flow_reports.proofs.knowledge.KnownReports.{agrees_on, all_of, all_of_is_known}
use Rattle.flow_views.specs.Json.{program_line}
use Rattle.json_parts.specs.JsonParts.{IsJsonPart, count_object, heading_object, in_first, json_part_of, last_object, remark_objects}
use Rattle.json_parts.proofs.PointLines.{same_lines}
use Rattle.report_answers.specs.code.Reported.{Reported}
use Rattle.tac_program.specs.Programs.{Program}
use Rattle.json_parts.proofs.parts.JsonPartText.of.Goals as goal

is_part : (found : Findings) (digest : List ℕ) (count part : ℕ) → AreChosenFindings found → TellDoubtful found.graph.now found.doubtful.items
    → AreOfPart found.graph.now count part found.answers.now.chosen
    → IsJsonPart found.graph.now digest count part (json_part_of digest found.graph.now (knowledge_of found) count part)
is_part found digest count part are doubts of =
    let program : Program = found.graph.now in
    let known : Knowledge = all_of found are.sound in
    let agree = agrees_on found are known (all_of_is_known found are.sound doubts) doubts in
    let lines = same_lines program (knowledge_of found) known agree.doubtful in
    let remarks = same_part program are.sound count part found.answers.now.chosen of (knowledge_of found) known agree in
    record {
      known = known;
      is_known = all_of_is_known found are.sound doubts;
      is_text = λ i. heading_object digest count part ++ program_line program ++ in_first part (lines i)
          ++ remark_objects program (remarks i) ++ in_first part (count_object program) ++ last_object part;
    }

pub returns : goal.returns
returns c =
    let found : Findings = c.in_ok-found.found in
    let told = c.in_ok-found.ensures in
    let count : ℕ = c.args.share.count in
    let part : ℕ = c.args.share.part in
    let of : AreOfPart c.args.graph.now count part found.answers.now.chosen =
    subst (λ (r : Reported). AreOfPart c.args.graph.now count part r.chosen) (sym told.answers) c.requires.part in
    subst (λ (p : Program). AreOfPart p count part found.answers.now.chosen
    → IsJsonPart p c.args.digest.now count part (json_part_of c.args.digest.now found.graph.now (knowledge_of found) count part))
    told.program (is_part found c.args.digest.now count part told.found told.doubtful) of
