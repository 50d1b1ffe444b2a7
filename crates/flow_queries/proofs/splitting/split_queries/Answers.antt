use Rattle.flow_queries.proofs.queries.Splitting.{none_split}
use Rattle.flow_queries.proofs.splitting.split_queries.Goals as goal

pub loop-analysis-init : goal.loop-analysis-init
loop-analysis-init c =
    none_split c.args.solvers.now c.args.queries.now c.in_ok-split.split.left.items c.in_ok-split.split.found.items c.in_ok-split.ensures.left
    c.in_ok-split.ensures.found_count c.in_ok-split.ensures.found
