use Rattle.flow_queries.proofs.queries.TableAnswers.{asked_answers}
use Rattle.flow_rows.proofs.table_answers.answer_in.Goals as goal

pub returns : goal.returns
returns c = asked_answers c.args.graph.now c.args.query c.word_in.result c.word_in.ensures

pub word_in-requires-clause-analysis : goal.word_in-requires-clause-analysis
word_in-requires-clause-analysis c = (c.requires.tables c.args.query.analysis c.table.result.now c.table.ensures).0

pub word_in-requires-clause-table : goal.word_in-requires-clause-table
word_in-requires-clause-table c = (c.requires.tables c.args.query.analysis c.table.result.now c.table.ensures).1
