use Rattle.std.proofs.Common.{◌≡◌, ◌∙◌, IfOk, Option, Some, None, ap, subst, sym}
use Rattle.tac_lines.specs.declared.fault.Fault.{Fault}
use Rattle.tac_reader.specs.Sections.{sections}
use Rattle.tac_reader.specs.code.SectionViews.{sections_view}
use Rattle.tac_reader.proofs.programs.ReadSteps.{sections_are}
use Rattle.tac_hints.specs.Names.{name_hint}
use Rattle.tac_hints.specs.Texts.{place_of}
use Rattle.tac_faults.specs.declared.slips.Hint.{Hint}
use Rattle.tac_faults.specs.declared.slips.Hint.TheVariants as hint
use Rattle.tac_hints.proofs.text_hints.names_hint.Goals as goal

pub returns-in_ok-sections-in-Ok : goal.returns-in_ok-sections-in-Ok
returns-in_ok-sections-in-Ok c =
    let text = c.args.text.now in
    let ss = sections_are text c.in-Ok.lexed _ _ _ (c.in_ok-sections-in-Ok.ensures text) c.of.ensures.tokens c.of.ensures.lines
    c.in-Ok.ensures.lines in
    let found = ap (λ x. sections_view text x) c.deref.ensures.value ∙ ss in
    subst (λ (told : Hint). IfOk c.name_hint.result (λ h. h ≡ told))
    ((λ i. name_hint c.args.limits c.args.refusal.kind text (found i) (c.place_of-place.ensures i))
    ∙ sym (ap (λ (o : Option Fault). elim o as (λ _. Hint) [
      | Some f ↦ hint.None
      | None ↦ name_hint c.args.limits c.args.refusal.kind text (sections text) (place_of text c.args.refusal)
    ]) c.in-Ok.ensures.faultless))
    c.name_hint.ensures
