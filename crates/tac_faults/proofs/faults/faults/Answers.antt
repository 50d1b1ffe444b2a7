use Rattle.std.proofs.Common.{◌≡◌, ◌∙◌, IfOk, List, ap, subst, sym, take}
use Rattle.tac_faults.proofs.TextFaults.{lines_told, names_told}
use Rattle.tac_faults.specs.Listed.{most_found}
use Rattle.tac_lines.specs.declared.fault.Fault.{Fault}
use Rattle.tac_reader.specs.Faults.{name_faults}
use Rattle.tac_reader.specs.code.SectionViews.{sections_view}
use Rattle.tac_reader.proofs.programs.ReadSteps.{sections_are}
use Rattle.tac_faults.proofs.faults.faults.Goals as goal

pub returns-in_ok-sections-in-Ok : goal.returns-in_ok-sections-in-Ok
returns-in_ok-sections-in-Ok c =
    let text = c.args.text.now in
    let ss = sections_are text c.in-Ok.lexed _ _ _ (c.in_ok-sections-in-Ok.ensures text) c.of.ensures.tokens c.of.ensures.lines
    c.in-Ok.ensures.lines in
    subst (λ (fs : List Fault). IfOk c.name_faults.result (λ found. take most_found found.items ≡ take most_found fs))
    (ap (name_faults c.args.limits) (ap (λ x. sections_view text x) c.deref.ensures.value ∙ ss)
    ∙ sym (names_told c.args.limits text c.requires c.in-Ok.ensures.faultless))
    c.name_faults.ensures

pub returns-in-Err-Fault : goal.returns-in-Err-Fault
returns-in-Err-Fault c =
    subst (λ (fs : List Fault). IfOk c.line_faults.result (λ found. take most_found found.items ≡ take most_found fs))
    (sym (lines_told c.args.limits c.args.text.now c.in-Err-Fault.field-0-0 c.requires
    (rw c.in-Err-Fault.field-0-is at c.in-Err-Fault.ensures.fault)))
    c.line_faults.ensures
