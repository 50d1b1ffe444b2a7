use Rattle.std.proofs.Common.{◌≡◌, ◌<◌, Some, sym, ap, subst, ◌∙◌, arith}
use Rattle.std.proofs.lemmas.Result.{IfOk-weaker}
use Rattle.flow_graph.specs.Universes.{bits}
use Rattle.flow_graph.specs.declared.analysis.Analysis.TheVariants.{Avail}
use Rattle.flow_queries.specs.Queries.{IsQueryOf}
use Rattle.report_answers.specs.code.Chosen.{wanted_query}
use Rattle.tac_program.specs.Programs.{Program}
use Rattle.report_answers.specs.code.Answered.{query_for}
use Rattle.report_answers.specs.code.Chosen.{IsWanted}
use Rattle.report_answers.proofs.queries.Querying.{queries_one, put_there, wanted_is_query, wanted_is_wanted}
use Rattle.report_answers.proofs.queries.Statements.{evaluated_there}
use Rattle.report_answers.proofs.report_queries.query_evaluated.Goals as goal

pub returns-in-Some-clause-queries : goal.returns-in-Some-clause-queries
returns-in-Some-clause-queries c =
    let program : Program = c.args.graph.now in
    let there : c.in-Some.bit < bits program Avail = evaluated_there program c.args.point c.in-Some.bit (sym c.in-Some.ensures) in
    let asked : IsQueryOf program (query_for Avail c.args.point c.in-Some.bit) = record { point = c.requires.point; word = omega (arith, there) } in
    let of : IsQueryOf program (wanted_query c.args.chosen Avail c.args.point c.in-Some.bit) =
    wanted_is_query c.args.chosen program Avail c.args.point c.in-Some.bit asked in
    IfOk-weaker c.put_query.result _ _ (λ _ is. queries_one c.args.chosen program c.args.queries.now.items c.put_query.new.queries.items c.wanted_query.result 1 is
    (subst (IsQueryOf program) (sym c.wanted_query.ensures) of)
    (subst (IsWanted c.args.chosen) (sym c.wanted_query.ensures) (wanted_is_wanted c.args.chosen Avail c.args.point c.in-Some.bit)) (omega arith)) c.put_query.ensures

pub returns-in-Some-clause-queried : goal.returns-in-Some-clause-queried
returns-in-Some-clause-queried c =
    IfOk-weaker c.put_query.result _ _
    (λ _ is bit evaluates.
    let same : c.in-Some.bit ≡ bit = cc (c.in-Some.ensures ∙ evaluates) in
    put_there c.args.queries.now.items c.put_query.new.queries.items c.wanted_query.result is
    ∙ ap (λ a. Some a) (c.wanted_query.ensures ∙ ap (wanted_query c.args.chosen Avail c.args.point) same))
    c.put_query.ensures
