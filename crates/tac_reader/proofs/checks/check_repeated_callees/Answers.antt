use Rattle.std.proofs.Common.{◌∙◌, ap, sym, [], List, flat_map}
use Rattle.tac_reader.specs.Faults.{head_of, repeated}
use Rattle.tac_reader.specs.Sections.{Section, statements_of}
use Rattle.tac_lines.specs.Forms.{callees_of}
use Rattle.tac_reader.specs.code.SectionViews.{section_view}
use Rattle.tac_lines.specs.declared.fault.Fault.{Fault}
use Rattle.tac_lines.specs.declared.refusal.RefusalKind.TheVariants.{DuplicateCallee}
use Rattle.tac_reader.proofs.lines.FirstFaults.{fault_past, fault_here}
use Rattle.tac_reader.proofs.checks.check_repeated_callees.Goals as goal

abbrev faults : Section → List Fault
faults s = flat_map (λ c. repeated DuplicateCallee [] (callees_of c)) (statements_of s.body)

pub returns-in-Some-clause-fault : goal.returns-in-Some-clause-fault
returns-in-Some-clause-fault c =
    fault_here faults (section_view c.args.text.now)
    c.args.sections.now c.loop-section.section-index c.section-item.result _ c.in-Some.fault c.loop-section-test.true (sym c.in-Some.is
    ∙ c.in_ok-fault.ensures ∙ ap (λ s. head_of (faults (section_view c.args.text.now s))) c.section-item.is) c.loop-section.invariant

pub loop-section-preserved : goal.loop-section-preserved
loop-section-preserved c =
    fault_past faults (section_view c.args.text.now) c.args.sections.now c.loop-section.section-index c.section-item.result _ c.loop-section-test.true
    (sym c.in_default.is ∙ c.in_ok-fault.ensures ∙ ap (λ s. head_of (faults (section_view c.args.text.now s))) c.section-item.is)
    c.loop-section.invariant
