use Rattle.std.proofs.Common.{◌≡◌, ◌+◌, ◌<◌, ℕ, Some, length, sym, ap, subst, ◌∙◌, arith}
use Rattle.std.proofs.lemmas.Result.{IfOk-weaker}
use Rattle.flow_graph.specs.declared.analysis.Analysis.TheVariants.{Live}
use Rattle.flow_graph.proofs.places.Standing.{stands}
use Rattle.flow_queries.specs.Queries.{IsQueryOf}
use Rattle.report_answers.specs.code.Chosen.{wanted_query}
use Rattle.tac_program.specs.Programs.{Program}
use Rattle.report_answers.specs.code.Answered.{query_for}
use Rattle.report_answers.specs.code.Chosen.{IsWanted}
use Rattle.report_answers.proofs.queries.Querying.{queries_one, put_there, wanted_is_query, wanted_is_wanted}
use Rattle.report_answers.proofs.queries.Statements.{assigned_there, next_below}
use Rattle.report_answers.proofs.report_queries.query_assigned.Goals as goal

pub returns-in-Some-clause-queries : goal.returns-in-Some-clause-queries
returns-in-Some-clause-queries c =
    let program : Program = c.args.graph.now in
    let stand = stands program c.requires.sound c.args.point c.args.kind.now c.requires.point c.requires.kind in
    let variable : ℕ = c.in-Some.variable in
    let there : variable < length program.variable_names =
    assigned_there program c.args.point variable c.args.kind.now stand (sym c.in-Some.ensures) in
    let asked : IsQueryOf program (query_for Live (c.args.point + 1) variable) =
    record { point = next_below program c.args.point c.args.kind.now stand; word = omega (arith, there) } in
    let of : IsQueryOf program (wanted_query c.args.chosen Live (c.args.point + 1) variable) =
    wanted_is_query c.args.chosen program Live (c.args.point + 1) variable asked in
    IfOk-weaker c.put_query.result _ _ (λ _ is. queries_one c.args.chosen program c.args.queries.now.items c.put_query.new.queries.items c.wanted_query.result 1 is
    (subst (IsQueryOf program) (sym c.wanted_query.ensures) of)
    (subst (IsWanted c.args.chosen) (sym c.wanted_query.ensures) (wanted_is_wanted c.args.chosen Live (c.args.point + 1) variable)) (omega arith)) c.put_query.ensures

pub returns-in-Some-clause-queried : goal.returns-in-Some-clause-queried
returns-in-Some-clause-queried c =
    IfOk-weaker c.put_query.result _ _
    (λ _ is variable sets.
    let same : c.in-Some.variable ≡ variable = cc (c.in-Some.ensures ∙ sets) in
    put_there c.args.queries.now.items c.put_query.new.queries.items c.wanted_query.result is
    ∙ ap (λ a. Some a) (c.wanted_query.ensures ∙ ap (wanted_query c.args.chosen Live (c.args.point + 1)) same))
    c.put_query.ensures

pub returns-in-Some-clause-none : goal.returns-in-Some-clause-none
returns-in-Some-clause-none c = λ none. absurd (cc (c.in-Some.ensures ∙ none))
