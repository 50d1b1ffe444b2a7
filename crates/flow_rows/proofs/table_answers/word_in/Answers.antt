use Rattle.flow_queries.proofs.queries.TableAnswers.{table_words}
use Rattle.flow_rows.proofs.table_answers.word_in.Goals as goal

pub returns : goal.returns
returns c =
    table_words c.args.graph.now c.args.table.now c.args.query c.word.result c.requires.analysis c.requires.table c.requires.query c.word.ensures.set
    c.word.ensures.past
