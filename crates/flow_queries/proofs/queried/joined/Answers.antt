use Rattle.flow_queries.proofs.queries.Splitting.{joined_word}
use Rattle.flow_queries.proofs.queried.joined.Goals as goal

pub returns : goal.returns
returns c = λ program query rest split tells. joined_word program query rest c.args.found c.args.solved split tells
