use Rattle.tac_lines.proofs.tokens.Pieces.{number_front}
use Rattle.tac_lines.proofs.piece.number_len.Goals as goal

pub returns-clause-longest : goal.returns-clause-longest
returns-clause-longest c = number_front c.args.rest.now c.digit_run.result c.requires.some c.requires.digit c.digit_run.ensures.run
