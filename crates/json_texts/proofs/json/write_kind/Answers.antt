use Rattle.std.proofs.Common.{◌++◌, codes, ap, sym, ◌∙◌}
use Rattle.flow_reports.specs.code.Findings.{remark_name}
use Rattle.text_pieces.proofs.sinks.Taking.{takes_as}
use Rattle.tac_program.specs.Programs.{Program}
use Rattle.flow_views.specs.Json.{remark_fields}
use Rattle.text_pieces.specs.Strings.{quoted}
use Rattle.json_texts.proofs.json.write_kind.Goals as goal

pub returns-in-NeverReached : goal.returns-in-NeverReached
returns-in-NeverReached g c =
    takes_as _ _ _ _ c.write.ensures (sym (ap (remark_fields c.args.found.now.graph.now) c.in-NeverReached.is))

pub returns-in-Unset : goal.returns-in-Unset
returns-in-Unset g c =
    let program : Program = c.args.found.now.graph.now in
    takes_as _ _ _ _ c.write_named.ensures
    (ap (λ t. codes "\"unset\",\"variable\":" ++ quoted t) (c.chosen_name-name.ensures ∙ ap (remark_name program) c.in-Unset.is)
    ∙ sym (ap (remark_fields program) c.in-Unset.is))

pub returns-in-Computed : goal.returns-in-Computed
returns-in-Computed g c =
    let program : Program = c.args.found.now.graph.now in
    takes_as _ _ _ _ c.write_named-in-Computed.ensures
    (ap (λ t. codes "\"computed\",\"expression\":" ++ quoted t) (c.chosen_name-name.ensures ∙ ap (remark_name program) c.in-Computed.is)
    ∙ sym (ap (remark_fields program) c.in-Computed.is))

pub returns-in-VeryBusy : goal.returns-in-VeryBusy
returns-in-VeryBusy g c =
    let program : Program = c.args.found.now.graph.now in
    takes_as _ _ _ _ c.write_named-in-VeryBusy.ensures
    (ap (λ t. codes "\"busy\",\"expression\":" ++ quoted t) (c.chosen_name-name.ensures ∙ ap (remark_name program) c.in-VeryBusy.is)
    ∙ sym (ap (remark_fields program) c.in-VeryBusy.is))

pub returns-in-Dead : goal.returns-in-Dead
returns-in-Dead g c =
    let program : Program = c.args.found.now.graph.now in
    takes_as _ _ _ _ c.write_named-in-Dead.ensures
    (ap (λ t. codes "\"dead\",\"variable\":" ++ quoted t) (c.chosen_name-name.ensures ∙ ap (remark_name program) c.in-Dead.is)
    ∙ sym (ap (remark_fields program) c.in-Dead.is))
