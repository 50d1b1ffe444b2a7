use Rattle.std.proofs.Common.{◌∙◌, ◌++◌, ap, take, List, []}
use Rattle.tac_faults.proofs.Lists.{told_more}
use Rattle.tac_faults.specs.Listed.{most_found}
use Rattle.tac_lines.specs.declared.fault.Fault.{Fault}
use Rattle.tac_lines.specs.declared.refusal.RefusalKind.TheVariants.{DuplicateLabel}
use Rattle.tac_reader.specs.Faults.{repeated}
use Rattle.tac_reader.specs.Sections.{Section, labels_in}
use Rattle.tac_reader.specs.code.SectionViews.{section_view}
use Rattle.tac_faults.proofs.names.tell_labels.Goals as goal

abbrev faults : Section → List Fault
faults s = repeated DuplicateLabel [] (labels_in s)

pub loop-section-preserved : goal.loop-section-preserved
loop-section-preserved c =
    let old = c.loop-section.found.items in
    told_more faults (section_view c.args.text.now) most_found c.args.sections.now c.loop-section.section-index c.section-item.result old
    c.tell_section_labels.new.found.items _ c.loop-section-test.true
    (c.in_ok-tell_section_labels.ensures ∙ ap (λ s. take most_found (old ++ faults (section_view c.args.text.now s))) c.section-item.is)
    c.loop-section.invariant
