use Rattle.std.proofs.Common.{◌≡◌, ℕ, List, Some, length, slice_get, slice_index, sym, subst}
use Rattle.flow_graph.specs.declared.analysis.Analysis.TheVariants.{Reach, Live}
use Rattle.flow_queries.specs.Queries.{AreAnswers, AreQueriesOf, IsAnswerTo}
use Rattle.flow_queries.specs.declared.query.Query.{Query}
use Rattle.flow_queries.proofs.queries.TableAnswers.{table_flags, known_by_tables}
use Rattle.flow_rows.proofs.table_answers.answers_of_tables.Goals as goal

pub flags_in-requires : goal.flags_in-requires
flags_in-requires c = (c.requires.tables Reach c.table.result.now c.table.ensures).1.points

pub flags_in-requires-2 : goal.flags_in-requires-2
flags_in-requires-2 c = (c.requires.tables Live c.table-2.result.now c.table-2.ensures).1.points

pub words_in-requires-clause-queries : goal.words_in-requires-clause-queries
words_in-requires-clause-queries c = subst (AreQueriesOf c.args.graph.now) (sym c.as_slice.ensures.value) c.requires.queries

pub returns-clause-answers : goal.returns-clause-answers
returns-clause-answers c =
    let program = c.args.graph.now in
    let words = c.in_ok-words.words.items in
    let solved = subst
    (λ (queries : List Query). (length words ≡ length queries)
    × ((q : ℕ) (query : Query) → slice_get queries q ≡ Some query → IsAnswerTo program query (slice_index words q)))
    c.as_slice.ensures.value (c.in_ok-words.ensures.count, c.in_ok-words.ensures.answered) in
    let reach = c.requires.tables Reach c.table.result.now c.table.ensures in
    let live = c.requires.tables Live c.table-2.result.now c.table-2.ensures in
    subst (AreAnswers program) (sym c.of_words.ensures)
    (known_by_tables program c.args.queries.items words c.in_ok-forward.forward.items c.in_ok-backward.backward.items solved.0 solved.1
    (table_flags program c.table.result.now Reach c.in_ok-forward.forward.items reach.0 reach.1 c.in_ok-forward.ensures)
    (table_flags program c.table-2.result.now Live c.in_ok-backward.backward.items live.0 live.1 c.in_ok-backward.ensures))
