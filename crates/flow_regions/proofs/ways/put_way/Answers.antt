use Rattle.std.proofs.Common.{List, length, sym, subst}
use Rattle.flow_regions.specs.code.Ways.{AreWays, IsHop}
use Rattle.flow_regions.specs.declared.way.Way.{Way}
use Rattle.flow_regions.proofs.witnesses.Growing.{ways_more}
use Rattle.flow_regions.proofs.ways.put_way.Goals as goal

pub returns : goal.returns
returns c =
    let hop = subst (λ (l : List Way). IsHop c.args.links.now l (length l) c.args.point c.in-Some.hop) c.as_slice.ensures.value c.in-Some.ensures in
    subst (λ (l : List Way). AreWays c.args.links.now l) (sym c.in_ok-push.ensures.items)
    (ways_more c.args.links.now c.args.ways.now.items (record { point = c.args.point; hop = c.in-Some.hop }) c.requires hop)
