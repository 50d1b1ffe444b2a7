-- How what is told is shown.
use Rattle.std.specs.Prelude.{Bool, true, false, not, ◌&&◌, ◌||◌}
use Rattle.lint_commands.specs.declared.options.Coloring.{Coloring}
use Rattle.lint_commands.specs.declared.options.Coloring.TheVariants.{Auto, Always, Never}
use Rattle.lint_commands.specs.declared.options.Options.{Options}
use Rattle.lint_styles.specs.declared.style.Style.{Style}

-- Whether there are colours: by itself at a terminal, where they are not unwanted.
abbrev pub is_colored : Coloring → (terminal unwanted : Bool) → Bool
is_colored Auto terminal unwanted = terminal && not unwanted
is_colored Always terminal unwanted = true
is_colored Never terminal unwanted = false

-- Lines of the source are shown where that is asked for, and at a terminal.
abbrev pub style_of : Options → (terminal unwanted : Bool) → Style
style_of options terminal unwanted = record { source = options.source || terminal; color = is_colored options.color terminal unwanted }
