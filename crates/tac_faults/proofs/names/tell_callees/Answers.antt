use Rattle.std.proofs.Common.{◌∙◌, ◌++◌, ap, take, List}
use Rattle.tac_faults.proofs.Lists.{told_more}
use Rattle.tac_faults.specs.Listed.{most_found}
use Rattle.tac_lines.specs.Tokens.{Token}
use Rattle.tac_lines.specs.declared.fault.Fault.{Fault}
use Rattle.tac_lines.specs.declared.refusal.RefusalKind.TheVariants.{UnknownProcedure}
use Rattle.tac_reader.specs.Faults.{callees_in, unknown}
use Rattle.tac_reader.specs.Sections.{Section}
use Rattle.tac_reader.specs.code.SectionViews.{section_view}
use Rattle.tac_faults.proofs.names.tell_callees.Goals as goal

abbrev faults : List Token → Section → List Fault
faults known s = unknown UnknownProcedure known (callees_in s)

pub loop-section-preserved : goal.loop-section-preserved
loop-section-preserved c known is_known =
    let old = c.loop-section.found.items in
    told_more (faults known) (section_view c.args.text.now) most_found c.args.sections.now c.loop-section.section-index c.section-item.result old
    c.tell_section_callees.new.found.items _ c.loop-section-test.true
    (c.in_ok-tell_section_callees.ensures known is_known
    ∙ ap (λ s. take most_found (old ++ faults known (section_view c.args.text.now s))) c.section-item.is)
    (c.loop-section.invariant known is_known)
