use Rattle.std.proofs.Common.{ℕ, List, [], ◌∷◌, ◌++◌, sym, ap, subst, ◌∙◌, append-nil, append_assoc, arith}
use Rattle.std.proofs.lemmas.Result.{IfOk-weaker}
use Rattle.flow_graph.specs.declared.analysis.Analysis.TheVariants.{Reach}
use Rattle.flow_queries.specs.Queries.{IsQueryOf}
use Rattle.flow_queries.specs.declared.query.Query.{Query}
use Rattle.report_answers.specs.code.Operands.{AreRead}
use Rattle.report_answers.specs.code.Chosen.{wanted_query}
use Rattle.tac_program.specs.Programs.{Program}
use Rattle.report_answers.specs.code.Chosen.{IsWanted}
use Rattle.report_answers.proofs.queries.Querying.{queries_one, queries_then, read_is_query, reads_queried, wanted_is_wanted}
use Rattle.report_answers.proofs.queries.Statements.{first_of, second_of}
use Rattle.report_answers.proofs.report_queries.query_reads.Goals as goal

pub returns-in-None-clause-queried : goal.returns-in-None-clause-queried
returns-in-None-clause-queried c =
    let old : List Query = c.args.queries.now.items in
    let are : AreRead c.args.kind.now [] = record { rising = c.in-None.ensures.rising; read = c.in-None.ensures.read } in
    reads_queried c.args.chosen c.args._graph.now c.args.point c.args.kind.now c.requires.sound c.requires.point c.requires.kind old old [] are (sym (append-nil old))

pub returns-in-One-clause-queries : goal.returns-in-One-clause-queries
returns-in-One-clause-queries c =
    let program : Program = c.args._graph.now in
    let x : ℕ = c.in-One.variable in
    let are : AreRead c.args.kind.now (x ∷ []) = record { rising = c.in-One.ensures.rising; read = c.in-One.ensures.read } in
    let of : IsQueryOf program (wanted_query c.args.chosen Reach c.args.point x) =
    read_is_query c.args.chosen program c.args.point c.args.kind.now c.requires.sound c.requires.point c.requires.kind (x ∷ []) are x (first_of x []) in
    IfOk-weaker c.put_query.result _ _ (λ _ is. queries_one c.args.chosen program c.args.queries.now.items c.put_query.new.queries.items c.wanted_query.result 2 is
    (subst (IsQueryOf program) (sym c.wanted_query.ensures) of)
    (subst (IsWanted c.args.chosen) (sym c.wanted_query.ensures) (wanted_is_wanted c.args.chosen Reach c.args.point x)) (omega arith)) c.put_query.ensures

pub returns-in-One-clause-queried : goal.returns-in-One-clause-queried
returns-in-One-clause-queried c =
    let old : List Query = c.args.queries.now.items in
    let x : ℕ = c.in-One.variable in
    let are : AreRead c.args.kind.now (x ∷ []) = record { rising = c.in-One.ensures.rising; read = c.in-One.ensures.read } in
    IfOk-weaker c.put_query.result _ _
    (λ _ is. reads_queried c.args.chosen c.args._graph.now c.args.point c.args.kind.now c.requires.sound c.requires.point c.requires.kind old c.put_query.new.queries.items
    (x ∷ []) are
    (is ∙ ap (λ a. old ++ a ∷ []) c.wanted_query.ensures))
    c.put_query.ensures

pub returns-in_ok-put_query-in-Two-clause-queries : goal.returns-in_ok-put_query-in-Two-clause-queries
returns-in_ok-put_query-in-Two-clause-queries c =
    let program : Program = c.args._graph.now in
    let x : ℕ = c.in-Two.first in
    let y : ℕ = c.in-Two.second in
    let old : List Query = c.args.queries.now.items in
    let mid : List Query = c.put_query-in-Two.new.queries.items in
    let new : List Query = c.put_query-in-Two-2.new.queries.items in
    let are : AreRead c.args.kind.now (x ∷ y ∷ []) = record { rising = c.in-Two.ensures.rising; read = c.in-Two.ensures.read } in
    let first : IsQueryOf program (wanted_query c.args.chosen Reach c.args.point x) =
    read_is_query c.args.chosen program c.args.point c.args.kind.now c.requires.sound c.requires.point c.requires.kind (x ∷ y ∷ []) are x (first_of x (y ∷ [])) in
    let second : IsQueryOf program (wanted_query c.args.chosen Reach c.args.point y) =
    read_is_query c.args.chosen program c.args.point c.args.kind.now c.requires.sound c.requires.point c.requires.kind (x ∷ y ∷ []) are y (second_of x y) in
    IfOk-weaker c.put_query-in-Two-2.result _ _
    (λ _ is. queries_then c.args.chosen program old mid new 1 1 2
    (queries_one c.args.chosen program old mid c.wanted_query-in-Two.result 1 c.in_ok-put_query-in-Two.ensures (subst (IsQueryOf program) (sym c.wanted_query-in-Two.ensures) first)
    (subst (IsWanted c.args.chosen) (sym c.wanted_query-in-Two.ensures) (wanted_is_wanted c.args.chosen Reach c.args.point x)) (omega arith))
    (queries_one c.args.chosen program mid new c.wanted_query-in-Two-2.result 1 is (subst (IsQueryOf program) (sym c.wanted_query-in-Two-2.ensures) second)
    (subst (IsWanted c.args.chosen) (sym c.wanted_query-in-Two-2.ensures) (wanted_is_wanted c.args.chosen Reach c.args.point y)) (omega arith))
    (omega arith))
    c.put_query-in-Two-2.ensures

pub returns-in_ok-put_query-in-Two-clause-queried : goal.returns-in_ok-put_query-in-Two-clause-queried
returns-in_ok-put_query-in-Two-clause-queried c =
    let x : ℕ = c.in-Two.first in
    let y : ℕ = c.in-Two.second in
    let old : List Query = c.args.queries.now.items in
    let one : Query = wanted_query c.args.chosen Reach c.args.point x in
    let other : Query = wanted_query c.args.chosen Reach c.args.point y in
    let are : AreRead c.args.kind.now (x ∷ y ∷ []) = record { rising = c.in-Two.ensures.rising; read = c.in-Two.ensures.read } in
    IfOk-weaker c.put_query-in-Two-2.result _ _
    (λ _ is. reads_queried c.args.chosen c.args._graph.now c.args.point c.args.kind.now c.requires.sound c.requires.point c.requires.kind old
    c.put_query-in-Two-2.new.queries.items (x ∷ y ∷ []) are
    (is
    ∙ ap (λ a. c.put_query-in-Two.new.queries.items ++ a ∷ []) c.wanted_query-in-Two-2.ensures
    ∙ ap (λ queries. queries ++ other ∷ []) (c.in_ok-put_query-in-Two.ensures ∙ ap (λ a. old ++ a ∷ []) c.wanted_query-in-Two.ensures)
    ∙ append_assoc old (one ∷ []) (other ∷ [])))
    c.put_query-in-Two-2.ensures
