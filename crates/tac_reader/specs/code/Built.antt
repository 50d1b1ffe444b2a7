-- What the code's tables of names stand for.
use Rattle.std.specs.Prelude.{ℕ, List, [], map, Option, Some, None, slice_get}
use Rattle.tac_lines.specs.Tokens.{Word, fixed, Token, spelling_of}
use Rattle.tac_program.specs.Programs.{number_of}
use Rattle.tac_program.specs.Names.{Names}
use Rattle.tac_lines.specs.Forms.{callees_of}
use Rattle.tac_reader.specs.declared.build.Names.{Names as Tables}

abbrev pub names_view : Tables → Names
names_view tables = record { procedures = tables.procedures.now; variables = tables.variables.table.now; labels = tables.labels.now }

-- The word there, or one without bytes.
abbrev pub word_or_none : Option Token → Word
word_or_none None = fixed []
word_or_none (Some t) = t.word

abbrev pub word_nth : List Token → ℕ → Word
word_nth ts at = word_or_none (slice_get ts at)

-- The numbers of the procedures that a statement calls.
abbrev pub call_numbers : List (List ℕ) → List Token → List ℕ
call_numbers procedures ts = map (λ t. number_of procedures (spelling_of t)) (callees_of ts)
