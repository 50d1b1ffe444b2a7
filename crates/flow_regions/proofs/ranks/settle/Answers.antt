use Rattle.flow_regions.proofs.ranks.settle.Goals as goal

pub returns-then-not-raise_all-clause-ranked : goal.returns-then-not-raise_all-clause-ranked
returns-then-not-raise_all-clause-ranked c _ = c.raise_all.ensures.ranked c.if-not-raise_all.true
