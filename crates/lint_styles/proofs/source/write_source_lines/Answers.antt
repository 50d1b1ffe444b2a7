use Rattle.text_pieces.proofs.sinks.Taking.{takes_then}
use Rattle.lint_styles.proofs.source.write_source_lines.Goals as goal

pub returns : goal.returns
returns g c = takes_then _ _ _ _ _ c.write_text_line.ensures c.write_sign_line.ensures
