use Rattle.flow_queries.proofs.queried.QueriedWords.post_query.Goals as goal

pub post_word-requires-clause-tells : goal.post_word-requires-clause-tells
post_word-requires-clause-tells c = c.wanted_word-word.ensures.tells c.query-query.result c.query-query.ensures.query
