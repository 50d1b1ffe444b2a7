use Rattle.std.proofs.Common.{◌∙◌, is_some, nat_lt, length}
use Rattle.tac_lines.specs.Tokens.{stop_of}
use Rattle.tac_lines.specs.code.Views.{tokens_view, slots_view, line_forms}
use Rattle.tac_lines.proofs.forms.LineForms.{judged, form_fault_is}
use Rattle.tac_lines.proofs.line.judged_line.Goals as goal

pub returns-else-is_empty : goal.returns-else-is_empty
returns-else-is_empty c text bad =
    let ts = tokens_view text c.args.tokens.now in
    let others = c.without_prefix-others.result.now in
    let labelled = nat_lt (length others) (length c.args.tokens.now) in
    form_fault_is c.args.inside labelled ts (tokens_view text others) bad (c.without_prefix-others.ensures.others text)
    (c.without_prefix-others.ensures.forms text)
    ∙ judged (line_forms c.args.inside labelled) (slots_view c.line_slots.result.now) (tokens_view text others) c.follow.result (is_some bad)
    (stop_of ts) (c.line_slots.ensures text) (c.follow.ensures.wrong text) (c.follow.ensures.whole text)
