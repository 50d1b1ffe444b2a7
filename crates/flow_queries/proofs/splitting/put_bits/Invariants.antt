use Rattle.flow_bounds.specs.Asked.{AreAsksOf}
use Rattle.flow_queries.proofs.splitting.put_bits.Given as goal

abbrev pub invariant-loop : goal.invariant-loop
invariant-loop l = AreAsksOf l.problem l.asked.asks.items
