-- What is told of a byte that begins no token.
use Rattle.std.specs.Prelude.{ℕ, ◌+◌, ◌-◌, Bool, not, ◌&&◌, ◌==◌, List, length, slice_index, codes, if◌then◌else◌}
use Rattle.tac_lines.specs.Forms.{key, operand, variable}
use Rattle.tac_lines.specs.Tokens.{Token}
use Rattle.tac_program.specs.Spelling.{is_digit, is_name_byte}
use Rattle.tac_faults.specs.declared.slips.Hint.{Hint}
use Rattle.tac_faults.specs.declared.slips.Hint.TheVariants as hint
use Rattle.tac_faults.specs.declared.slips.Slip.TheVariants as slip
use Rattle.tac_faults.specs.Hints.Choices.{or_hint}
use Rattle.tac_faults.specs.Hints.Places.{bytes, bytes_at, is_not_ascii, run_stop, stands}

-- The bytes 239, 187 and 191 at the text's start.
abbrev pub mark_hint : List ℕ → ℕ → Hint
mark_hint text place =
    if place == 0 && slice_index text 0 == 239 && slice_index text 1 == 187 && slice_index text 2 == 191 then hint.ByteOrderMark else hint.None

-- Behind a name `(` or `[`; a procedure's own name is called nowhere.
abbrev pub called_hint : List ℕ → List Token → ℕ → Hint
called_hint text before place =
    if stands variable before (length before - 1) && not (stands (key (codes "proc")) before 0) then
    (if slice_index text place == 40 then hint.Call (bytes_at before (length before - 1))
    else if slice_index text place == 91 then hint.Index (bytes_at before (length before - 1)) else hint.None) else hint.None

-- A parenthesis in a line that begins with `proc`.
abbrev pub parameters_hint : List ℕ → List Token → ℕ → Hint
parameters_hint text before place =
    if slice_index text place == 40 && stands (key (codes "proc")) before 0 then hint.Slip slip.Parameters (bytes_at before (length before - 1))
    else hint.None

abbrev pub comma_hint : List ℕ → ℕ → Hint
comma_hint text place = if slice_index text place == 44 then hint.Slip slip.Comma (bytes place (place + 1)) else hint.None

-- A point directly behind a number.
abbrev pub float_hint : List ℕ → List Token → ℕ → Hint
float_hint text before place =
    if slice_index text place == 46 && stands operand before (length before - 1) && (bytes_at before (length before - 1)).stop == place
    && is_digit (slice_index text (bytes_at before (length before - 1)).start)
    then hint.Float (bytes (bytes_at before (length before - 1)).start (run_stop is_digit text (place + 1))) else hint.None

-- A point before digits alone.
abbrev pub fraction_hint : List ℕ → ℕ → Hint
fraction_hint text place =
    if slice_index text place == 46 && is_digit (slice_index text (place + 1)) then hint.Float (bytes place (run_stop is_digit text (place + 1)))
    else hint.None

-- A byte that is enough.
abbrev pub lone_hint : ℕ → Hint
lone_hint b =
    if b == 13 then hint.CarriageReturn
    else if b == 59 then hint.Semicolon
    else if b == 123 then hint.Brace
    else if b == 125 then hint.Brace
    else if b == 34 then hint.Quote
    else if b == 39 then hint.Quote
    else if b == 40 then hint.Parenthesis
    else if b == 41 then hint.Parenthesis else hint.None

-- Any other byte: with those like it, with the name behind it, or alone.
abbrev pub begun_hint : List ℕ → ℕ → Hint
begun_hint text place =
    if is_not_ascii (slice_index text place) then hint.NotAscii (bytes place (run_stop is_not_ascii text place))
    else if is_name_byte (slice_index text (place + 1)) then hint.NoName (bytes place (run_stop is_name_byte text (place + 1)))
    else hint.Byte (bytes place (place + 1))

-- Of a bad byte at a place, by the tokens of its line before it.
abbrev pub byte_hint : List ℕ → List Token → ℕ → Hint
byte_hint text before place =
    or_hint (or_hint (or_hint (or_hint (or_hint (or_hint (or_hint (mark_hint text place) (parameters_hint text before place))
    (called_hint text before place)) (float_hint text before place)) (fraction_hint text place)) (comma_hint text place))
    (lone_hint (slice_index text place))) (begun_hint text place)
