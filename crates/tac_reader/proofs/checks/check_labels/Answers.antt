use Rattle.std.proofs.Common.{◌≡◌, ◌∙◌, ap, sym, [], List, Some, flat_map}
use Rattle.tac_reader.specs.Faults.{head_of, repeated}
use Rattle.tac_reader.specs.Sections.{Section, labels_in}
use Rattle.tac_reader.specs.code.SectionViews.{section_view, sections_view}
use Rattle.tac_lines.specs.declared.fault.Fault.{Fault}
use Rattle.tac_lines.specs.declared.refusal.RefusalKind.TheVariants.{DuplicateLabel}
use Rattle.std.proofs.lemmas.Result.{err_from_is_err_and}
use Rattle.tac_reader.proofs.lines.FirstFaults.{fault_here, if_fault_weaker}
use Rattle.tac_reader.proofs.checks.check_labels.Goals as goal

abbrev faults : Section → List Fault
faults s = repeated DuplicateLabel [] (labels_in s)

pub returns-in_err-section_labels-clause-fault : goal.returns-in_err-section_labels-clause-fault
returns-in_err-section_labels-clause-fault c =
    let p = err_from_is_err_and c.from_residual-in_err-section_labels.result c.from_residual-in_err-section_labels.ensures.1 in
    rw (p.1, p.2)
    (if_fault_weaker _ (λ f. head_of (flat_map faults (sections_view c.args.text.now c.args.sections.now)) ≡ Some f) c.in_err-section_labels.field-0.0
    (λ f h. fault_here faults (section_view c.args.text.now)
    c.args.sections.now c.loop-section.section-index c.section-item.result _ f c.loop-section-test.true
    (sym h ∙ ap (λ s. head_of (faults (section_view c.args.text.now s))) c.section-item.is) c.loop-section.invariant.faults)
    c.in_err-section_labels.ensures.fault)
