-- The text of a file that is refused.
use Rattle.std.specs.Prelude.{ℕ, Bool, true, false, List, [], ◌++◌, map, flat_map, take, length, Option, Some, None, slice_range, nat_eq, nat_lt}
use Rattle.std.specs.Prelude.{codes, decimal, if◌then◌else◌}
use Rattle.lint_styles.specs.Styles.{painted, shown, source_of}
use Rattle.lint_styles.specs.declared.style.Hue.TheVariants.{Error, Note}
use Rattle.lint_styles.specs.declared.style.Style.{Style}
use Rattle.tac_hints.specs.Texts.{hint_of}
use Rattle.tac_faults.specs.Listed.{refusals_within}
use Rattle.tac_faults.specs.declared.slips.Bytes.{Bytes}
use Rattle.tac_faults.specs.declared.slips.Hint.{Hint}
use Rattle.tac_faults.specs.declared.slips.Hint.TheVariants as hint
use Rattle.tac_faults.specs.declared.slips.Slip.{Slip}
use Rattle.tac_faults.specs.declared.slips.Slip.TheVariants as slip
use Rattle.tac_lines.specs.LineFaults.{number_of_kind}
use Rattle.tac_lines.specs.code.Views.{keyword_text}
use Rattle.tac_lines.specs.declared.refusal.Refusal.{Refusal}
use Rattle.tac_lines.specs.declared.refusal.RefusalKind.{RefusalKind}
use Rattle.tac_lines.specs.declared.refusal.RefusalKind.TheVariants as kind
use Rattle.tac_program.specs.declared.limits.Limits.{Limits}
use Rattle.refusal_texts.specs.declared.told.ToldRefusal.{ToldRefusal}

-- ---- what is told: each refusal with what is told on its mend

-- How many of them a reader is told. One more is found, so that it is known whether there are more.
abbrev pub most_told : ℕ
most_told = 20

abbrev pub told_of : Limits → List ℕ → Refusal → ToldRefusal
told_of limits text r = record { refusal = r; hint = hint_of limits text r }

abbrev pub told_within : Limits → List ℕ → List ToldRefusal
told_within limits text = map (told_of limits text) (refusals_within limits text)

-- ---- a part of the text, between two signs of its own

-- Of a long part the first bytes are shown.
abbrev pub most_shown : ℕ
most_shown = 64

abbrev pub cut_sign : ℕ → List ℕ
cut_sign count = if nat_lt most_shown count then codes ".." else []

abbrev pub quoted_part : List ℕ → List ℕ
quoted_part part = codes "`" ++ shown (take most_shown part) ++ cut_sign (length part) ++ codes "`"

abbrev pub quoted : List ℕ → Bytes → List ℕ
quoted text b = quoted_part (slice_range text b.start b.stop)

-- ---- sentences

-- What is wrong.
abbrev pub kind_words : RefusalKind → List ℕ
kind_words kind.BadByte = codes "no word, number or sign begins with this byte"
kind_words kind.NumberTooLarge = codes "the number is too large"
kind_words kind.NameTooLong = codes "the name is too long"
kind_words kind.Syntax = codes "no line goes on like this from here"
kind_words kind.Unclosed = codes "the text ends inside a procedure"
kind_words kind.NoMain = codes "no procedure is called `main`"
kind_words kind.DuplicateProcedure = codes "there is a procedure of this name already"
kind_words kind.DuplicateLabel = codes "this procedure has a label of this name already"
kind_words kind.UnknownLabel = codes "this procedure has no label of this name"
kind_words kind.UnknownProcedure = codes "there is no procedure of this name"
kind_words kind.TextTooLong = codes "the text is too long"
kind_words kind.TooManyProcedures = codes "there are too many procedures"
kind_words kind.DuplicateCallee = codes "this call lists the procedure already"

-- What stands there, and how it is mended: a sentence that begins with bytes of the text, or with its words,
abbrev pub quoted_bytes : Hint → Option Bytes
quoted_bytes hint.None = None
quoted_bytes (hint.Slip s b) = Some b
quoted_bytes hint.ByteOrderMark = None
quoted_bytes hint.CarriageReturn = None
quoted_bytes hint.Semicolon = None
quoted_bytes hint.Brace = None
quoted_bytes hint.Quote = None
quoted_bytes hint.Parenthesis = None
quoted_bytes (hint.Call b) = Some b
quoted_bytes (hint.Index b) = Some b
quoted_bytes (hint.Float b) = Some b
quoted_bytes (hint.NotAscii b) = Some b
quoted_bytes (hint.NoName b) = Some b
quoted_bytes (hint.Byte b) = Some b
quoted_bytes (hint.LargeNumber b) = Some b
quoted_bytes (hint.LongName b count) = Some b
quoted_bytes (hint.Comment b) = Some b
quoted_bytes (hint.Capitals k b) = Some b
quoted_bytes (hint.Misspelt k b) = Some b
quoted_bytes (hint.SecondOperator b) = Some b
quoted_bytes (hint.Unfinished b) = Some b
quoted_bytes (hint.EqualsInTest b) = Some b
quoted_bytes (hint.Then b) = Some b
quoted_bytes (hint.Returned b) = Some b
quoted_bytes (hint.LabelBefore b) = Some b
quoted_bytes (hint.ColonEquals b) = Some b
quoted_bytes (hint.Outside b) = Some b
quoted_bytes (hint.Negative b) = Some b
quoted_bytes (hint.Reserved b) = Some b
quoted_bytes (hint.ManyCallees count) = None
quoted_bytes (hint.EndLacks line b) = Some b
quoted_bytes (hint.Nearest b) = Some b
quoted_bytes (hint.First line b) = Some b
quoted_bytes (hint.LongText count) = None
quoted_bytes (hint.ManyProcedures count) = None

abbrev pub slip_words : Slip → List ℕ
slip_words slip.Assignment = codes " sets no variable: a statement is written `x = y + z`"
slip_words slip.Declaration = codes " declares nothing here: a variable is there where it is used"
slip_words slip.Opening = codes " opens no procedure: write `proc NAME`, and `end` behind its last line"
slip_words slip.Control = codes " is no word of the language: loops and branches are labels and jumps, as in `if a < b goto L`"
slip_words slip.Pointer = codes " goes through no pointer, and there are none: a variable is used by its name alone"
slip_words slip.Connective = codes " joins no tests: write two of them, one in each line"
slip_words slip.NumberAndName = codes " is neither a number nor a name: a number has the digits 0 to 9 alone, and a name begins with no digit"
slip_words slip.NumberForName = codes " is a number where a name has to stand"
slip_words slip.OwnLine = codes " cannot stand here: `proc NAME` and `end` have lines of their own"
slip_words slip.Parameters = codes " has no parameters, since all variables are global: `proc NAME` is the whole line"
slip_words slip.Turned = codes " compares nothing: at most is written `<=`, at least is written `>=`"
slip_words slip.Different = codes " compares nothing: different is written `!=`"
slip_words slip.Negation = codes " begins no test: one that jumps where there is nothing begins with `ifFalse`"
slip_words slip.Comma = codes " separates nothing: write a statement for each"
slip_words slip.ColonInJump = codes " stands behind a label where it is set, and not where it is jumped to"
slip_words slip.SecondStatement = codes " begins a second statement, and a line has one"

abbrev pub sentence_words : Hint → List ℕ
sentence_words hint.None = []
sentence_words (hint.Slip s b) = slip_words s
sentence_words hint.ByteOrderMark = codes "a byte order mark stands before the text: save it as UTF-8 without one"
sentence_words hint.CarriageReturn = codes "a carriage return stands inside the line: end a line with a line feed, alone or behind a carriage return"
sentence_words hint.Semicolon = codes "a statement ends with its line: leave the semicolon out"
sentence_words hint.Brace = codes "a procedure stands between `proc NAME` and `end`: leave the brace out"
sentence_words hint.Quote = codes "there are numbers alone, and no texts in quotation marks: notes for readers stand behind `#`"
sentence_words hint.Parenthesis = codes "there are no parentheses: a statement has one operator, and a test is written `if a < b goto L`"
sentence_words (hint.Call b) = codes " has no parameters: set variables, as in `a = x`, and then write `call NAME` on a line of its own"
sentence_words (hint.Index b) = codes " is one number, and there are no arrays: use a variable for each element"
sentence_words (hint.Float b) = codes " is no whole number, and there are no others"
sentence_words (hint.NotAscii b) = codes " is not ASCII: names have the letters a to z and A to Z, digits and `_`, and other letters may stand behind `#`"
sentence_words (hint.NoName b) = codes " is no name: a name has letters, digits and `_`, and begins with no digit"
sentence_words (hint.Byte b) = codes " means nothing here: notes for readers stand behind `#`"
sentence_words (hint.LargeNumber b) = codes " is above 9223372036854775807, the largest number"
sentence_words (hint.LongName b count) = codes " has more than 64 bytes, too many by "
sentence_words (hint.Comment b) = codes " begins no comment: a comment begins with `#`"
sentence_words (hint.Capitals k b) = codes " is written with other letters: "
sentence_words (hint.Misspelt k b) = codes " is no word of the language, and this is the nearest one: "
sentence_words (hint.SecondOperator b) = codes " is a second operator, and a statement has one: set a variable to the first result, and use it in the next line"
sentence_words (hint.Unfinished b) = codes " cannot be the end of the line: something has to stand behind it"
sentence_words (hint.EqualsInTest b) = codes " sets a variable: a test compares with `==`"
sentence_words (hint.Then b) = codes " is left out: a test is written `if a < b goto L`"
sentence_words (hint.Returned b) = codes " cannot stand behind `return`: set a variable, as in `result = x`, and then write `return` alone"
sentence_words (hint.LabelBefore b) = codes " cannot stand behind a label: put the label on a line of its own before it"
sentence_words (hint.ColonEquals b) = codes " stands alone to set a variable: leave the colon out"
sentence_words (hint.Outside b) = codes " stands outside of procedures: put the line between `proc main` and `end`"
sentence_words (hint.Negative b) = codes " cannot be an operand: set a variable to it, and use that"
sentence_words (hint.Reserved b) = codes " is a word of the language, and cannot be a name: take another one"
sentence_words (hint.ManyCallees count) = codes "a call lists 8 procedures at most, too many by "
sentence_words (hint.EndLacks line b) = codes " is not closed by `end`; it stands in line "
sentence_words (hint.Nearest b) = codes " is the nearest name that there is"
sentence_words (hint.First line b) = codes " stands first in line "
sentence_words (hint.LongText count) = codes "the text has more bytes than the limits allow"
sentence_words (hint.ManyProcedures count) = codes "there are more procedures than the limits allow, too many by "

-- and ends with a number, with a word of the language, or with its words.
abbrev pub sentence_end : Hint → List ℕ
sentence_end (hint.LongName b count) = decimal count
sentence_end (hint.Capitals k b) = quoted_part (keyword_text k)
sentence_end (hint.Misspelt k b) = quoted_part (keyword_text k)
sentence_end (hint.ManyCallees count) = decimal count
sentence_end (hint.EndLacks line b) = decimal line
sentence_end (hint.First line b) = decimal line
sentence_end (hint.ManyProcedures count) = decimal count
sentence_end _ = []

abbrev pub quoted_if : List ℕ → Option Bytes → List ℕ
quoted_if text (Some b) = quoted text b
quoted_if text None = []

abbrev pub hint_words : List ℕ → Hint → List ℕ
hint_words text h = quoted_if text (quoted_bytes h) ++ sentence_words h ++ sentence_end h

-- ---- lines

-- `FILE:LINE:COLUMN: `
abbrev pub place_words : List ℕ → Refusal → List ℕ
place_words file r = shown file ++ codes ":" ++ decimal r.line ++ codes ":" ++ decimal r.column ++ codes ": "

-- `FILE:LINE:COLUMN: error: WORDS (refusal NUMBER)`
abbrev pub error_line : Style → List ℕ → Refusal → List ℕ
error_line style file r =
    place_words file r ++ painted style Error (codes "error") ++ codes ": " ++ kind_words r.kind
    ++ codes " (refusal " ++ decimal (number_of_kind r.kind) ++ codes ")\n"

-- `FILE:LINE:COLUMN: note: WORDS`, where something is told on the mend
abbrev pub note_line : Style → List ℕ → List ℕ → ToldRefusal → List ℕ
note_line style file text told =
    place_words file told.refusal ++ painted style Note (codes "note") ++ codes ": " ++ hint_words text told.hint ++ codes "\n"

abbrev pub is_some_hint : Hint → Bool
is_some_hint hint.None = false
is_some_hint _ = true

abbrev pub wanted_note : Style → List ℕ → List ℕ → ToldRefusal → List ℕ
wanted_note style file text told = if is_some_hint told.hint then note_line style file text told else []

-- the line of an error, the line of the source where these are shown, and the note
abbrev pub refusal_lines : Style → List ℕ → List ℕ → ToldRefusal → List ℕ
refusal_lines style file text told =
    error_line style file told.refusal
    ++ source_of style text told.refusal.line told.refusal.column
    ++ wanted_note style file text told

-- How many errors are told, of so many that were found.
abbrev pub error_count : ℕ → List ℕ
error_count count =
    if nat_lt most_told count then codes "the first 20 errors" else if nat_eq count 1 then codes "1 error" else decimal count ++ codes " errors"

-- `FILE: N errors`
abbrev pub count_line : List ℕ → ℕ → List ℕ
count_line file count = shown file ++ codes ": " ++ error_count count ++ codes "\n"

-- The text of a file of this name in which these refusals were found.
abbrev pub refusal_text_of : Style → List ℕ → List ℕ → List ToldRefusal → List ℕ
refusal_text_of style file text found = flat_map (refusal_lines style file text) (take most_told found) ++ count_line file (length found)
