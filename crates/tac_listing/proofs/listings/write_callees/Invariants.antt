use Rattle.std.proofs.Common.{◌≡◌, ◌++◌, codes, flat_map, take}
use Rattle.tac_program.specs.Names.{name_at}
use Rattle.tac_listing.proofs.listings.write_callees.Given as goal

abbrev pub invariant-loop-callee : goal.invariant-loop-callee
invariant-loop-callee l =
    l.text.items ≡ l.initial.text.items ++ flat_map (λ q. codes " | " ++ name_at l.names.procedures q) (take l.callee-index l.others)
