use Rattle.flow_queries.proofs.queries.Gathered.{bit_removed}
use Rattle.flow_queries.proofs.splitting.without_bit.Goals as goal

pub returns : goal.returns
returns c = λ k below. bit_removed c.args.word c.args.place k c.requires below
