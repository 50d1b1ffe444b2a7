use Rattle.lint_texts.proofs.Parts.{is_written}
use Rattle.lint_texts.proofs.lint_text.LintText.of.Goals as goal

pub returns : goal.returns
returns c = is_written _ _ _ _ _ _ c.in_ok-lines.ensures.parts c.in_ok-lines.ensures.lines
