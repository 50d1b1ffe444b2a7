use Rattle.tac_reader.proofs.layouts.KeptWords.{statements_keep_their_words}
use Rattle.tac_reader.proofs.laws.statements_keep_their_words.Goals as goal

pub returns : goal.returns
returns c = statements_keep_their_words
