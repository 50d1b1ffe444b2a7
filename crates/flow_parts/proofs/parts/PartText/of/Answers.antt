-- The remarks of a part of what was found are those of all that is known.
use Rattle.std.proofs.Common.{◌++◌, List, ℕ, ap, sym, subst}
use Rattle.tac_program.specs.Programs.{Program}
use Rattle.flow_reports.specs.Reports.{Knowledge, count_line}
use Rattle.flow_reports.specs.code.Findings.{AreChosenFindings, TellDoubtful, knowledge_of}
use Rattle.report_answers.specs.code.Reported.{Reported}
use Rattle.flow_reports.specs.declared.findings.Findings.{Findings}
use Rattle.flow_reports.specs.declared.listed.PlacedRemark.{PlacedRemark}
use Rattle.flow_reports.proofs.knowledge.KnownReports.{agrees_on, all_of, all_of_is_known}
use Rattle.flow_parts.specs.code.Bits.{AreOfPart}
use Rattle.flow_parts.specs.Parts.{IsPart, end_line, heading_line, part_lines, part_of}
use Rattle.flow_parts.proofs.ChosenRemarks.{same_part}
use Rattle.flow_parts.proofs.parts.PartText.of.Goals as goal

is_part : (found : Findings) (digest : List ℕ) (count part : ℕ) → AreChosenFindings found → TellDoubtful found.graph.now found.doubtful.items
    → AreOfPart found.graph.now count part found.answers.now.chosen
    → IsPart found.graph.now digest count part (part_of digest found.graph.now (knowledge_of found) count part)
is_part found digest count part are doubts of =
    let program : Program = found.graph.now in
    let known : Knowledge = all_of found are.sound in
    record {
      known = known;
      is_known = all_of_is_known found are.sound doubts;
      is_text = ap (λ (remarks : List PlacedRemark). heading_line digest count part ++ count_line program
          ++ part_lines program remarks ++ end_line part)
          (same_part program are.sound count part found.answers.now.chosen of (knowledge_of found) known
          (agrees_on found are known (all_of_is_known found are.sound doubts) doubts));
    }

pub returns : goal.returns
returns c =
    let found : Findings = c.in_ok-found.found in
    let told = c.in_ok-found.ensures in
    let of : AreOfPart c.args.graph.now c.args.count c.args.part found.answers.now.chosen =
    subst (λ (r : Reported). AreOfPart c.args.graph.now c.args.count c.args.part r.chosen) (sym told.answers) c.requires.part in
    subst (λ (p : Program). AreOfPart p c.args.count c.args.part found.answers.now.chosen
    → IsPart p c.args.digest.now c.args.count c.args.part (part_of c.args.digest.now found.graph.now (knowledge_of found) c.args.count c.args.part))
    told.program (is_part found c.args.digest.now c.args.count c.args.part told.found told.doubtful) of
