use Rattle.std.proofs.Common.{◌∙◌, ap, sym, List}
use Rattle.tac_lines.specs.Tokens.{Token}
use Rattle.tac_reader.specs.Faults.{callees_in, head_of, unknown}
use Rattle.tac_reader.specs.Sections.{Section, titles}
use Rattle.tac_reader.specs.code.SectionViews.{section_view, sections_view}
use Rattle.tac_lines.specs.declared.fault.Fault.{Fault}
use Rattle.tac_lines.specs.declared.refusal.RefusalKind.TheVariants.{UnknownProcedure}
use Rattle.tac_reader.proofs.lines.FirstFaults.{fault_past}
use Rattle.tac_reader.proofs.checks.check_callees.Goals as goal

abbrev faults_among : List Token → Section → List Fault
faults_among known s = unknown UnknownProcedure known (callees_in s)

pub loop-section-preserved : goal.loop-section-preserved
loop-section-preserved c =
    let known = titles (sections_view c.args.text.now c.args.sections.now) in
    fault_past (faults_among known) (section_view c.args.text.now) c.args.sections.now c.loop-section.section-index c.section-item.result
    _ c.loop-section-test.true (sym c.in_default.is ∙ c.in_ok-fault.ensures known c.requires
    ∙ ap (λ s. head_of (faults_among known (section_view c.args.text.now s))) c.section-item.is) c.loop-section.invariant
