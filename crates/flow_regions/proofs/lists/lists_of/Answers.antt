use Rattle.std.proofs.Common.{sym, subst}
use Rattle.worklist.specs.Groups.{AreGroups}
use Rattle.flow_regions.proofs.listed.Pairs.{listed_pairs}
use Rattle.flow_regions.proofs.lists.lists_of.Goals as goal

pub returns-clause-has : goal.returns-clause-has
returns-clause-has c =
    listed_pairs c.args.keys.now c.args.values.now c.in_ok-groups.groups.starts.items c.as_slice.result.now c.in_ok-values.values.items c.args.count
    (subst (λ p. AreGroups c.args.keys.now c.args.count c.in_ok-groups.groups.starts.items p) (sym c.as_slice.ensures.value) c.in_ok-groups.ensures) c.requires.low
    c.in_ok-values.ensures.count c.in_ok-values.ensures.each
