use Rattle.bit_rows.proofs.rows.WordLoops.{IsAddedTo}
use Rattle.bit_rows.proofs.kernels.or_words_from.Given as goal

abbrev pub invariant-words : goal.invariant-words
invariant-words l = IsAddedTo l.base l.fn.target l.first l.masks l.w l.target
