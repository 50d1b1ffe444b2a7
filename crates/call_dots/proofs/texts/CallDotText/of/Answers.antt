use Rattle.std.proofs.Common.{Bool, List, ℕ, subst}
use Rattle.flow_reports.specs.code.Findings.{knowledge_of}
use Rattle.flow_reports.proofs.knowledge.KnownReports.{agrees, all_is_known, all_known}
use Rattle.tac_program.specs.Programs.{Program}
use Rattle.call_dots.specs.CallDots.{IsCallDot, call_dot_of}
use Rattle.call_dots.specs.code.Tables.{IsCallProgram, recursion_of}
use Rattle.call_dots.specs.declared.texts.CallProgram.{CallProgram}
use Rattle.call_dots.proofs.drawn.Nodes.{same_picture}
use Rattle.call_dots.proofs.drawn.Recursion.{is_recursion}
use Rattle.call_dots.proofs.texts.CallDotText.of.Goals as goal

pub returns : goal.returns
returns c =
    let shown : CallProgram = c.in_ok-shown.shown in
    let are : IsCallProgram shown = c.in_ok-shown.ensures.shown in
    let program : Program = shown.found.graph.now in
    let text : List ℕ = call_dot_of program (knowledge_of shown.found) (recursion_of shown) shown.legend in
    let known = all_known shown.found are.found in
    let is_known = all_is_known shown.found are.found are.doubts in
    subst (λ (p : Program). IsCallDot p c.args.legend text) c.in_ok-shown.ensures.program
    (subst (λ (b : Bool). IsCallDot program b text) c.in_ok-shown.ensures.legend
    record {
      known = known;
      is_known = is_known;
      recursion = recursion_of shown;
      is_recursion = is_recursion program are.found.sound shown.calls.numbers.items are.tables.components;
      is_text = same_picture program are.found.sound (knowledge_of shown.found) known (agrees shown.found are.found known is_known are.doubts)
          (recursion_of shown) shown.legend;
    })
