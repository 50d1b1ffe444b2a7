-- The limits of the language, and how large a text and its program may be.
use Rattle.std.specs.Prelude.{ℕ}
use Rattle.tac_program.specs.declared.limits.Limits.{Limits}
use Rattle.tac_program.specs.declared.limits.Limits.TheVariants.{Standard, Large}

abbrev pub largest_number : ℕ
largest_number = 9223372036854775807

abbrev pub longest_name : ℕ
longest_name = 64

-- bytes of a text
abbrev pub longest_text : Limits → ℕ
longest_text Standard = 1048576
longest_text Large = 536870912

abbrev pub most_procedures : Limits → ℕ
most_procedures Standard = 256
most_procedures Large = 262144

abbrev pub most_points : Limits → ℕ
most_points Standard = 16384
most_points Large = 16777216

abbrev pub most_variables : Limits → ℕ
most_variables Standard = 4096
most_variables Large = 4194304

abbrev pub most_expressions : Limits → ℕ
most_expressions Standard = 4096
most_expressions Large = 4194304

-- The large ones have no limit of their own for definitions: a program has at most one a point, and one a variable.
abbrev pub most_definitions : Limits → ℕ
most_definitions Standard = 4096
most_definitions Large = 20971520
