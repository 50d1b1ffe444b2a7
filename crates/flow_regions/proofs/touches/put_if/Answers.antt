use Rattle.std.proofs.lemmas.Result.{on_ok_weaker}
use Rattle.flow_regions.proofs.touches.put_if.Goals as goal

pub returns-else-key-count-clause-pairs : goal.returns-else-key-count-clause-pairs
returns-else-key-count-clause-pairs c =
    on_ok_weaker c.put_pair.result (λ puts limit pairs low. puts c.args.count limit pairs c.if-key-count.false low) c.put_pair.ensures.pairs
