use Rattle.tac_lines.proofs.tokens.Pieces.{comment_front}
use Rattle.tac_lines.proofs.piece.comment_len.Goals as goal

pub returns-clause-longest : goal.returns-clause-longest
returns-clause-longest c = comment_front c.args.rest.now c.line_run.result c.requires.some c.requires.hash c.line_run.ensures.run
