use Rattle.std.proofs.Common.{◌∙◌, ap}
use Rattle.tac_reader.specs.code.SectionViews.{section_view}
use Rattle.tac_hints.proofs.HintLists.{any_more}
use Rattle.tac_hints.specs.Names.{call_hint}
use Rattle.tac_hints.proofs.name_hints.calls_hint.Goals as goal

pub loop-section-preserved : goal.loop-section-preserved
loop-section-preserved c =
    let of = call_hint c.args.text.now c.args.place in
    let view = section_view c.args.text.now in
    any_more of view c.args.sections.now c.loop-section.section-index c.section-item.result c.loop-section.hint c.in_ok-call_hint.field-0
    c.or_hint_of-hint.result _ c.loop-section-test.true (c.in_ok-call_hint.ensures ∙ ap (λ s. of (view s)) c.section-item.is)
    c.or_hint_of-hint.ensures c.loop-section.invariant
