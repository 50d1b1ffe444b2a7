use Rattle.std.proofs.Common.{get_or, arith}
use Rattle.std.proofs.lemmas.Grind.{common_steps}
use Rattle.std.proofs.lemmas.List.Elements.{Contains-get_or}
use Rattle.flow_links.proofs.values.sources.Goals as goal

pub source-requires : goal.source-requires
source-requires c =
    let low = c.requires.places c.loop-place.place-index (omega arith) in
    c.requires.edges _ (Contains-get_or c.args.edges.now (get_or c.args.places.now c.loop-place.place-index 0) _ (omega (arith, low)))

pub loop-place-preserved : goal.loop-place-preserved
loop-place-preserved c = grind (arith, common_steps)

pub returns : goal.returns
returns c = grind (arith, common_steps)
