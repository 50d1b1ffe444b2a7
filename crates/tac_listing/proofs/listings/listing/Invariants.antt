use Rattle.std.proofs.Common.{◌≡◌, flat_map, take}
use Rattle.tac_listing.specs.Listings.{procedure_text}
use Rattle.tac_listing.proofs.listings.listing.Given as goal

abbrev pub invariant-loop-proc : goal.invariant-loop-proc
invariant-loop-proc l =
    l.text.items ≡ flat_map (procedure_text l.program.procedure_names l.program.variable_names) (take l.proc-index l.proc-items)
