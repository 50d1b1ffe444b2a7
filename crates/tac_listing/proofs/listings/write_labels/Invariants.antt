use Rattle.std.proofs.Common.{◌≡◌, ◌++◌, drop}
use Rattle.tac_listing.specs.Listings.{labels_text}
use Rattle.tac_program.proofs.programs.LabelPlaces.{behind}
use Rattle.tac_listing.proofs.listings.write_labels.Given as goal

-- what is written and what the labels ahead still give make up the whole
abbrev pub invariant-loop-passed : goal.invariant-loop-passed
invariant-loop-passed l = record {
  written : l.text.items ++ labels_text l.names l.place (drop l.passed l.ahead) ≡ l.fn.text.items ++ labels_text l.names l.place l.ahead;
  behind : behind l.place (drop l.passed l.ahead) ≡ behind l.place l.ahead;
}
