-- What a status and the place of a refusal say, in one line.
use Rattle.std.specs.Prelude.{ℕ, ◌==◌, if◌then◌else◌, List, ◌++◌, codes, decimal}
use Rattle.tacflow_c.specs.declared.statuses.Place.{Place}

-- the name of a refusal by its number
abbrev pub refusal_name : ℕ → List ℕ
refusal_name number =
    if number == 1 then codes "BadByte"
    else if number == 2 then codes "NumberTooLarge"
    else if number == 3 then codes "NameTooLong"
    else if number == 4 then codes "Syntax"
    else if number == 5 then codes "Unclosed"
    else if number == 6 then codes "NoMain"
    else if number == 7 then codes "DuplicateProcedure"
    else if number == 8 then codes "DuplicateLabel"
    else if number == 9 then codes "UnknownLabel"
    else if number == 10 then codes "UnknownProcedure"
    else if number == 11 then codes "TextTooLong"
    else if number == 12 then codes "TooManyProcedures"
    else if number == 13 then codes "DuplicateCallee"
    else codes "unknown"

-- `LINE:COLUMN: refusal NUMBER: NAME`
abbrev pub refusal_line : Place → List ℕ
refusal_line place =
    decimal place.line ++ codes ":" ++ decimal place.column ++ codes ": refusal " ++ decimal place.number ++ codes ": " ++ refusal_name place.number

-- another status
abbrev pub status_line : ℕ → List ℕ
status_line status =
    if status == 0 then codes "no fault"
    else if status == 2 then codes "out of memory"
    else if status == 3 then codes "no such analysis"
    else if status == 4 then codes "no such points or bits"
    else if status == 5 then codes "the room does not fit the answer"
    else if status == 6 then codes "a pointer is null"
    else if status == 7 then codes "no such limits"
    else if status == 8 then codes "the handle is closed, or open where it has to be closed"
    else if status == 9 then codes "the arrays stand for no program"
    else if status == 21 then codes "refusal 21: TooManyPoints"
    else if status == 22 then codes "refusal 22: TooManyBits"
    else codes "unknown status"

-- the place tells where a text is refused, and nothing else
abbrev pub message_of : ℕ → Place → List ℕ
message_of status place = if status == 1 then refusal_line place else status_line status
