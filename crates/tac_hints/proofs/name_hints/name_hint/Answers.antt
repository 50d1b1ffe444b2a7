use Rattle.std.proofs.Common.{◌≡◌, ◌∙◌, IfOk, List, ap, subst, sym}
use Rattle.tac_lines.specs.Tokens.{Token}
use Rattle.tac_lines.specs.code.Views.{tokens_view}
use Rattle.tac_reader.specs.code.SectionViews.{sections_view}
use Rattle.tac_faults.specs.Hints.Choices.{any_hint}
use Rattle.tac_hints.specs.Names.{callee_hint, name_hint}
use Rattle.tac_hints.proofs.name_hints.name_hint.Goals as goal

pub returns-in-UnknownProcedure : goal.returns-in-UnknownProcedure
returns-in-UnknownProcedure c =
    let text = c.args.text.now in
    let ss = sections_view text c.args.sections.now in
    subst (λ k. IfOk c.callees_hint.result (λ h. h ≡ name_hint c.args.limits k text ss c.args.place)) (sym c.in-UnknownProcedure.is)
    (subst (λ (known : List Token). IfOk c.callees_hint.result (λ h. h ≡ any_hint (callee_hint known c.args.place) ss))
    (ap (tokens_view text) c.deref-in-UnknownProcedure.ensures.value ∙ c.in_ok-titles.ensures text) c.callees_hint.ensures)
