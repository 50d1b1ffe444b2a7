use Rattle.std.proofs.Common.{◌≡◌, ◌++◌, drop}
use Rattle.tac_listing.specs.Listings.{places_text}
use Rattle.tac_program.proofs.programs.LabelPlaces.{from}
use Rattle.tac_listing.proofs.listings.write_places.Given as goal

-- what is written and what the places ahead still give make up the whole
abbrev pub invariant-loop-place : goal.invariant-loop-place
invariant-loop-place l = record {
  written : l.text.items ++ places_text l.names l.place l.labels (drop l.place l.stmts) ≡ l.fn.text.items ++ places_text l.names 0 l.labels l.stmts;
  ahead : l.ahead ≡ from l.place l.labels;
}
