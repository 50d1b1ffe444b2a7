-- The line on standard error for each fault.
use Rattle.std.specs.Prelude.{ℕ, ◌+◌, ◌/◌, ◌%◌, ◌&&◌, ◌==◌, Bool, not, List, [], ◌∷◌, ◌++◌, flat_map, Option, None, Some, codes, decimal, nat_lt, if◌then◌else◌}
use Rattle.flow_runs.specs.FaultLines.{line_of_fault}
use Rattle.flow_runs.specs.declared.fault.Fault.{Fault}
use Rattle.flow_runs.specs.declared.fault.Fault.TheVariants as fault

-- A printed sign of ASCII, other than a backslash.
abbrev pub is_plain : ℕ → Bool
is_plain b = nat_lt 31 b && nat_lt b 127 && not (b == 92)

abbrev pub hex_digit : ℕ → ℕ
hex_digit n = if nat_lt n 10 then 48 + n else 87 + n

-- A plain byte stands for itself, and every other one is `\x` and its two hexadecimal digits.
abbrev pub escaped_byte : ℕ → List ℕ
escaped_byte b = if is_plain b then b ∷ [] else 92 ∷ 120 ∷ hex_digit (b / 16) ∷ hex_digit (b % 16) ∷ []

abbrev pub escaped : List ℕ → List ℕ
escaped name = flat_map escaped_byte name

-- the line of what is not there, by the words for it and its name
abbrev pub missing_line : List ℕ → List ℕ → List ℕ
missing_line words name = codes "tacview" ++ (words ++ escaped name ++ codes "\n")

-- that a procedure is not there, and that a remark is not, with what was asked for
abbrev pub no_procedure_line : Option (List ℕ) → List ℕ
no_procedure_line (Some name) = missing_line (codes ": the program has no procedure ") name
no_procedure_line None = line_of_fault (codes "tacview") fault.NoProcedure

abbrev pub no_remark_line : Option (List ℕ) → List ℕ
no_remark_line (Some place) = missing_line (codes ": no variable may be used before it is set at ") place
no_remark_line None = line_of_fault (codes "tacview") fault.NoRemark

-- the same where a procedure has too many points for its rounds
abbrev pub large_line : List ℕ → List ℕ
large_line name =
    codes "tacview" ++ (codes ": the procedure " ++ escaped name ++ codes " has more than 200 points: --steps shows at most 200\n")

abbrev pub large_procedure_line : Option (List ℕ) → List ℕ
large_procedure_line (Some name) = large_line name
large_procedure_line None = line_of_fault (codes "tacview") fault.LargeProcedure

-- The whole line, with its line feed, where this procedure and this place were asked for.
abbrev pub fault_line : Option (List ℕ) → Option (List ℕ) → Fault → List ℕ
fault_line procedure place fault.NoProcedure = no_procedure_line procedure
fault_line procedure place fault.LargeProcedure = large_procedure_line procedure
fault_line procedure place fault.NoRemark = no_remark_line place
fault_line procedure place f = line_of_fault (codes "tacview") f

-- What is told of a page of so many megabytes: a browser's longest string has some 536 million signs.
abbrev pub slow_page_line : ℕ → List ℕ
slow_page_line megabytes =
    codes "tacview: " ++ (decimal megabytes
    ++ codes " MB, a page that takes seconds to open: --procedure NAME shows one procedure, --facts LIST fewer facts\n")

abbrev pub unopened_page_line : ℕ → List ℕ
unopened_page_line megabytes =
    codes "tacview: " ++ (decimal megabytes
    ++ codes " MB, which no browser opens: --procedure NAME shows one procedure, --facts LIST fewer facts\n")

-- the same of a page of so many bytes
abbrev pub large_page_line : ℕ → List ℕ
large_page_line bytes = if nat_lt 500000000 bytes then unopened_page_line (bytes / 1000000) else slow_page_line (bytes / 1000000)
