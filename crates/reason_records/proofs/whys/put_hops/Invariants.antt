use Rattle.std.proofs.Common.{◌≡◌, ◌++◌, map, take}
use Rattle.reason_records.specs.Why.{hop_part}
use Rattle.reason_records.proofs.whys.put_hops.Given as goal

abbrev pub invariant-loop-hop : goal.invariant-loop-hop
invariant-loop-hop l = l.hops.items ≡ l.fn.hops.items ++ map hop_part (take l.hop-index l.found)
