-- The facts of a text, and why there are none.
use Rattle.std.proofs.Common.{◌∙◌, sym}
use Rattle.std.proofs.lemmas.Result.{err_from_is_err_and}
use Rattle.flow_records.proofs.answers.Graphs.{bad_table, facts_of_text, has_graph}
use Rattle.flow_records.proofs.calls.facts_of_text.Goals as goal

pub returns-in_err-check_table-clause-fault : goal.returns-in_err-check_table-clause-fault
returns-in_err-check_table-clause-fault c =
    let is = c.in_ok-graph.ensures.graph ∙ c.in_ok-program.ensures.program in
    let graph = has_graph c.args.limits c.args.text.now c.in_ok-program.program c.in_ok-program.ensures.program c.in_ok-program.ensures.accepted
    c.in_ok-graph.ensures.few_points c.in_ok-graph.ensures.few_bits in
    let fault = err_from_is_err_and c.from_residual-in_err-check_table.result c.from_residual-in_err-check_table.ensures.1 in
    rw (fault.1, fault.2)
    (bad_table c.args.limits c.args.text.now c.in_ok-graph.graph c.args.asked.analysis c.in-Some.analysis c.args.asked.points.0 c.args.asked.points.1
    c.find_end.result _ _ _ _ _ is graph (sym c.in-Some.ensures) c.find_end.ensures c.in_err-check_table.ensures.fault)

pub returns-clause-facts : goal.returns-clause-facts
returns-clause-facts c =
    let is = c.in_ok-graph.ensures.graph ∙ c.in_ok-program.ensures.program in
    let graph = has_graph c.args.limits c.args.text.now c.in_ok-program.program c.in_ok-program.ensures.program c.in_ok-program.ensures.accepted
    c.in_ok-graph.ensures.few_points c.in_ok-graph.ensures.few_bits in
    facts_of_text c.args.limits c.args.text.now c.in_ok-graph.graph c.args.asked.analysis c.in-Some.analysis
    c.args.asked.points.0 c.args.asked.points.1 c.find_end.result _ _ _ _ is graph
    (sym c.in-Some.ensures) c.find_end.ensures c.in_ok-put_facts_of.ensures.facts
