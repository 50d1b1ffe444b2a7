use Rattle.bit_rows.proofs.slices.Cuts.{PlacesTo}
use Rattle.bit_rows.proofs.slicing.are_places.Given as goal

abbrev pub invariant-loop-place : goal.invariant-loop-place
invariant-loop-place l = PlacesTo l.bits l.places l.place-index l.last
