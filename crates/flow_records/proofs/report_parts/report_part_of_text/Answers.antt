use Rattle.std.proofs.Common.{◌≡◌, ◌∙◌, true, rules, sym, subst}
use Rattle.flow_records.specs.Texts.{NamesText}
use Rattle.flow_records.proofs.answers.Graphs.{has_graph}
use Rattle.flow_records.proofs.answers.ReportParts.{held_part, if_err, on_ok, part_fault}
use Rattle.flow_records.proofs.report_parts.report_part_of_text.Goals as goal

pub returns-clause-held : goal.returns-clause-held
returns-clause-held c =
    let is = c.in_ok-graph.ensures.graph ∙ c.in_ok-program.ensures.program in
    let graph = has_graph c.args.limits c.args.text.now c.in_ok-program.program c.in_ok-program.ensures.program c.in_ok-program.ensures.accepted
    c.in_ok-graph.ensures.few_points c.in_ok-graph.ensures.few_bits in
    let yes : c.is_share.result ≡ true = search rules in
    let names = subst (NamesText c.args.text.now) (sym c.as_slice.ensures.value) c.in_ok-name.ensures in
    on_ok c.put_part.result
    (held_part c.args.limits c.args.text.now c.in_ok-graph.graph c.args.share.count c.args.share.part _ is graph (c.is_share.ensures.0 yes) names
    _ _ _) c.put_part.ensures.held

pub returns-clause-fault : goal.returns-clause-fault
returns-clause-fault c =
    let is = c.in_ok-graph.ensures.graph ∙ c.in_ok-program.ensures.program in
    let graph = has_graph c.args.limits c.args.text.now c.in_ok-program.program c.in_ok-program.ensures.program c.in_ok-program.ensures.accepted
    c.in_ok-graph.ensures.few_points c.in_ok-graph.ensures.few_bits in
    let yes : c.is_share.result ≡ true = search rules in
    let names = subst (NamesText c.args.text.now) (sym c.as_slice.ensures.value) c.in_ok-name.ensures in
    if_err c.put_part.result
    (part_fault c.args.limits c.args.text.now c.in_ok-graph.graph c.args.share.count c.args.share.part _ is graph (c.is_share.ensures.0 yes) names
    _ _) c.put_part.ensures.fault
