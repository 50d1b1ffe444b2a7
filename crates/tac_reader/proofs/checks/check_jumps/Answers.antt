use Rattle.std.proofs.Common.{◌∙◌, ap, sym, ℕ, List, slice_index_or}
use Rattle.tac_reader.specs.Faults.{head_of, jumps_in, unknown}
use Rattle.tac_reader.specs.Parses.{names_in}
use Rattle.tac_reader.specs.Sections.{Section, labels_in}
use Rattle.tac_reader.specs.code.SectionViews.{section_view}
use Rattle.tac_lines.specs.declared.fault.Fault.{Fault}
use Rattle.tac_lines.specs.declared.refusal.RefusalKind.TheVariants.{UnknownLabel}
use Rattle.tac_reader.proofs.lines.FirstFaults.{at_images, fault_past, fault_here}
use Rattle.tac_reader.proofs.checks.check_jumps.Goals as goal

abbrev faults : Section → List Fault
faults s = unknown UnknownLabel (labels_in s) (jumps_in s)

abbrev label_names : Section → List (List ℕ)
label_names s = names_in (labels_in s)

pub unknown_jump-requires : goal.unknown_jump-requires
unknown_jump-requires c =
    c.index-labels-at.is
    ∙ ap (λ ls. slice_index_or ls c.loop-at.at c.index-labels-at.result) c.requires
    ∙ at_images label_names (section_view c.args.text.now)
    c.args.sections.now c.loop-at.at c.index-sections-at.result c.index-labels-at.result c.loop-at-test.true
    ∙ ap (λ s. label_names (section_view c.args.text.now s)) (sym c.index-sections-at.is)

pub returns-in-Some-clause-fault : goal.returns-in-Some-clause-fault
returns-in-Some-clause-fault c =
    fault_here faults (section_view c.args.text.now) c.args.sections.now c.loop-at.at c.index-sections-at.result _ c.in-Some.fault c.loop-at-test.true
    (sym c.in-Some.is ∙ c.in_ok-fault.ensures ∙ ap (λ s. head_of (faults (section_view c.args.text.now s))) c.index-sections-at.is)
    c.loop-at.invariant

pub loop-at-preserved : goal.loop-at-preserved
loop-at-preserved c =
    fault_past faults (section_view c.args.text.now) c.args.sections.now c.loop-at.at c.index-sections-at.result _ c.loop-at-test.true
    (sym c.in_default.is ∙ c.in_ok-fault.ensures ∙ ap (λ s. head_of (faults (section_view c.args.text.now s))) c.index-sections-at.is)
    c.loop-at.invariant
