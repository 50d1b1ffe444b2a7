use Rattle.lint_texts.specs.LintTexts.{file_text}
use Rattle.lint_texts.proofs.Texts.{tells}
use Rattle.lint_texts.proofs.lint_text.lint_text_here.Goals as goal

pub returns : goal.returns
returns c =
    tells (file_text c.args.file) c.args.telling c.args.graph.now c.in_ok-told.told _ _ c.in_ok-told.ensures c.in_ok-text.ensures c.in_ok-whole.ensures
