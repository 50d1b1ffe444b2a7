use Rattle.std.proofs.Common.{List, length, sym, subst}
use Rattle.flow_regions.specs.code.Ways.{IsHang, IsTree}
use Rattle.flow_regions.specs.declared.way.Branch.{Branch}
use Rattle.flow_regions.proofs.witnesses.Growing.{tree_more}
use Rattle.flow_regions.proofs.ways.put_branch.Goals as goal

pub returns : goal.returns
returns c =
    let hang = subst (λ (l : List Branch). IsHang c.args.links.now c.args.ways.now l (length l) c.args.hung.procedure c.in-Some.hang) c.as_slice.ensures.value
    c.in-Some.ensures in
    subst (λ (l : List Branch). IsTree c.args.links.now c.args.ways.now l) (sym c.in_ok-push.ensures.items)
    (tree_more c.args.links.now c.args.ways.now c.args.tree.now.items (record { procedure = c.args.hung.procedure; hang = c.in-Some.hang }) c.requires hang)
