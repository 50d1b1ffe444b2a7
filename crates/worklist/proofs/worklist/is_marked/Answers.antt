use Rattle.std.proofs.Common.{◌/◌, get_or, refl}
use Rattle.worklist.proofs.words.MarkLemmas.{word_has}
use Rattle.worklist.proofs.worklist.is_marked.Goals as goal

pub returns : goal.returns
returns c = word_has c.args.words.now c.args.rank (get_or c.args.words.now (c.args.rank / 64) 0) refl
