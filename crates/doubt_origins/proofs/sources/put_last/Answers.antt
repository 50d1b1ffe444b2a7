use Rattle.std.proofs.Common.{◌<◌, length, arith}
use Rattle.std.proofs.lemmas.List.{length-map}
use Rattle.flow_graph.proofs.lists.NumberListLemmas.{contents-put}
use Rattle.doubt_origins.proofs.sources.put_last.Goals as goal

pub returns : goal.returns
returns c =
    let below : c.args.index < length c.args.lists.now.items = omega (arith, c.requires, length-map c.args.lists.now.items (λ list. list.items)) in
    contents-put c.args.lists.now.items c.args.index c.args.point c.index_mut-list.result.now c.push.new.self below c.index_mut-list.ensures.value
    c.in_ok-push.ensures.ok
