-- Lines that are asked whether they have a form, one after another.
use Rattle.std.proofs.Common.{ℕ, List, ◌++◌, drop}
use Rattle.lint_texts.specs.Starts.{starts_from}
use Rattle.lint_texts.specs.declared.starts.Start.{Start}
use Rattle.tac_lines.specs.Forms.{Slot}
use Rattle.tac_lines.specs.Text.{lines}
use Rattle.tac_lines.specs.Tokens.{rows_from}

-- those so far, and those of the lines from a place on
abbrev pub with_rest : List Slot → List ℕ → ℕ → ℕ → List Start → List Start
with_rest form text at line old = old ++ starts_from form line (rows_from at (lines (drop at text)))
