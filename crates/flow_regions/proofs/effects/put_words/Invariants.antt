use Rattle.std.proofs.Common.{◌≡◌, length}
use Rattle.flow_regions.specs.code.Effects.{AreTold}
use Rattle.flow_regions.proofs.effects.put_words.Given as goal

abbrev pub invariant-loop-number : goal.invariant-loop-number
invariant-loop-number l = record {
  count : length l.words ≡ length l.fn.words;
  told : AreTold l.problem l.does l.columns l.number l.places (length l.fn.words) l.words;
}
