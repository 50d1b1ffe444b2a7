use Rattle.std.proofs.Common.{◌∙◌, ◌++◌, ap, take, List}
use Rattle.tac_faults.proofs.Lists.{told_more}
use Rattle.tac_faults.specs.Listed.{most_found}
use Rattle.tac_lines.specs.declared.fault.Fault.{Fault}
use Rattle.tac_lines.specs.declared.refusal.RefusalKind.TheVariants.{UnknownLabel}
use Rattle.tac_reader.specs.Faults.{jumps_in, unknown}
use Rattle.tac_reader.specs.Sections.{Section, labels_in}
use Rattle.tac_reader.specs.code.SectionViews.{section_view}
use Rattle.tac_faults.proofs.names.tell_jumps.Goals as goal

abbrev faults : Section → List Fault
faults s = unknown UnknownLabel (labels_in s) (jumps_in s)

pub loop-section-preserved : goal.loop-section-preserved
loop-section-preserved c =
    let old = c.loop-section.found.items in
    told_more faults (section_view c.args.text.now) most_found c.args.sections.now c.loop-section.section-index c.section-item.result old
    c.tell_section_jumps.new.found.items _ c.loop-section-test.true
    (c.in_ok-tell_section_jumps.ensures ∙ ap (λ s. take most_found (old ++ faults (section_view c.args.text.now s))) c.section-item.is)
    c.loop-section.invariant
