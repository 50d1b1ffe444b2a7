use Rattle.std.proofs.Common.{◌≡◌, ◌∙◌, Some, ap, sym, subst}
use Rattle.std.specs.Prelude.{bit_and, bit_xor}
use Rattle.flow_graph.specs.Directions.{is_intersection}
use Rattle.gen_kill.specs.Selections.{Selection, column_count}
use Rattle.flow_graph.specs.Universes.{bits}
use Rattle.flow_queries.specs.Queries.{IsAnswerTo}
use Rattle.flow_queries.specs.code.Boards.{Queried}
use Rattle.flow_queries.specs.declared.query.Query.{Query}
use Rattle.flow_queries.proofs.queries.Answered.{word_answers}
use Rattle.flow_queries.proofs.queried.QueriedWords.answer.Goals as goal

pub returns : goal.returns
returns c = λ query there.
    let queried = c.args.self.now in
    let one = c.query-query.result in
    let both : Some one ≡ Some query = sym c.query-query.ensures.query ∙ there in
    let same : one ≡ query = cc both in
    let limit = c.bits-bits.ensures.count ∙ ap (λ (selection : Selection). column_count selection) (c.problem.ensures ∙ c.solver.ensures)
    ∙ ap (λ (a : Queried). bits a.program one.analysis) c.self.view_is in
    subst (λ (a : Query). IsAnswerTo queried.program a (bit_xor c.word.result (bit_and c.complement_mask.result one.bits))) same
    (word_answers queried c.args.j one c.args.posted.now c.word.result c.complement_mask.result c.bits-bits.result (is_intersection c.join.result)
    c.query-query.ensures.queries c.query-query.ensures.query c.requires.rows c.word.ensures c.join.ensures limit
    c.complement_mask.ensures)
