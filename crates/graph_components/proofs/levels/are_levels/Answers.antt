use Rattle.std.proofs.Common.{◌≤◌, below_more, get_or, subst, arith}
use Rattle.std.proofs.lemmas.List.{get_or_default}
use Rattle.graph_components.specs.declared.arc.Arc.{Arc}
use Rattle.graph_components.proofs.levels.are_levels.Goals as goal

pub loop-arc-preserved : goal.loop-arc-preserved
loop-arc-preserved c = below_more _ _ c.loop-arc.invariant c.if-levels-arc.false

pub returns : goal.returns
returns c = λ is k d below.
    subst (λ (arc : Arc). get_or c.args.levels.now arc.to 0 ≤ get_or c.args.levels.now arc.from 0)
    (get_or_default c.args.arcs.now k (record { from = 0; to = 0 }) d below)
    (c.loop-arc.invariant k (omega (arith, below, c.loop-arc-test.false)))
