use Rattle.flow_queries.specs.code.Boards.{ordered}
use Rattle.flow_queries.proofs.queries.Placing.{order_of}
use Rattle.flow_queries.proofs.queried.QueriedWords.of.Goals as goal

pub invariant_of-result : goal.invariant_of-result
invariant_of-result c =
    let r = c.requires in
    let order = ordered c.args.queries.items c.args.places.items in (
      record {
        few = r.few;
        queries = r.queries;
        order = order_of c.args.solvers c.args.queries.items order c.args.places.items r.arranged r.queries;
        arranged = r.arranged;
      },
      r.packed,
      r.split,
    )
