use Rattle.std.proofs.Common.{take}
use Rattle.text_pieces.specs.Pieces.{Writes}
use Rattle.tac_listing.specs.Listings.{callees_text, names_in}
use Rattle.text_pieces.specs.Strings.{escaped}
use Rattle.tac_listing.proofs.scope.Scope.write_callees.Given as goal

abbrev pub invariant-loop-place : goal.invariant-loop-place
invariant-loop-place g l =
    Writes g.K.Sink l.fn.out l.out
    (escaped (callees_text (names_in l.fn.self.program.now l.fn.self.procedure) (take l.place l.fn.callees)))
