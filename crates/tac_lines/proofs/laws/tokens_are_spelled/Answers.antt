use Rattle.tac_lines.proofs.tokens.SpelledTokens.{tokens_are_spelled}
use Rattle.tac_lines.proofs.laws.tokens_are_spelled.Goals as goal

pub returns : goal.returns
returns c = tokens_are_spelled
