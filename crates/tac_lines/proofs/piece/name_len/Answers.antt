use Rattle.tac_lines.proofs.tokens.Longest.{name_front}
use Rattle.tac_lines.proofs.piece.name_len.Goals as goal

pub returns-clause-longest : goal.returns-clause-longest
returns-clause-longest c = name_front c.args.rest.now c.name_run.result c.requires.some c.requires.letter c.name_run.ensures.run
