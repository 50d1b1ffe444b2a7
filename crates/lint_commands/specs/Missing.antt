-- What is told of a procedure that is not there.
use Rattle.std.specs.Prelude.{ℕ, List, ◌++◌, codes}
use Rattle.lint_styles.specs.Styles.{shown}

abbrev pub missing_line : (file name : List ℕ) → List ℕ
missing_line file name = shown file ++ codes ": the program has no procedure " ++ shown name ++ codes "\n"
