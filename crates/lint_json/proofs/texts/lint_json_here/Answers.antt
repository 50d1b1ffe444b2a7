use Rattle.lint_json.proofs.texts.lint_json_here.Goals as goal

pub returns : goal.returns
returns c = record { linted = c.in_ok-told.told; is_linted = c.in_ok-told.ensures; is_text = c.in_ok-text.ensures }
