use Rattle.flow_queries.proofs.splitting.asked_of.Goals as goal

pub put_query-requires-clause-point : goal.put_query-requires-clause-point
put_query-requires-clause-point c = (c.requires c.loop-place.place c.query_at-query.result c.query_at-query.ensures).point
