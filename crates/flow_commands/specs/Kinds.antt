-- The word of each kind of answer.
use Rattle.std.specs.Prelude.{ℕ, List, [], ◌∷◌, Option, codes}
use Rattle.flow_runs.specs.Words.{kind_named}
use Rattle.flow_commands.specs.declared.options.Show.{Show}
use Rattle.flow_commands.specs.declared.options.Show.TheVariants as show

-- Each kind with its word.
abbrev pub kinds : List (List ℕ × Show)
kinds =
    (codes "report", show.Report) ∷ (codes "list", show.List) ∷ (codes "reach", show.Reach)
    ∷ (codes "live", show.Live) ∷ (codes "avail", show.Avail) ∷ (codes "busy", show.Busy) ∷ []

-- The kind that a word names.
abbrev pub show_named : List ℕ → Option Show
show_named = kind_named kinds
