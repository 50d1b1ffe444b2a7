-- All that is wrong with a text, as far as it is found.
use Rattle.std.specs.Prelude.{ℕ, zero, Bool, true, false, ◌&&◌, ◌||◌, ◌==◌, List, [], ◌∷◌, ◌++◌, map, take, drop, length, Option, Some, None, nat_lt}
use Rattle.std.specs.Prelude.{codes, if◌then◌else◌}
use Rattle.tac_faults.specs.Hints.Near.{is_near, is_same_but_for_capitals}
use Rattle.tac_faults.specs.Hints.Places.{is_not_ascii, name_at, run_stop, stands}
use Rattle.tac_lines.specs.Forms.{key}
use Rattle.tac_lines.specs.LineFaults.{at, first_by_place, inside_after, row_faults}
use Rattle.tac_lines.specs.Text.{lines}
use Rattle.tac_lines.specs.Tokens.{Row, Token, row_from, rows}
use Rattle.tac_lines.specs.code.Views.{fault_list, keyword_text}
use Rattle.tac_lines.specs.declared.fault.Fault.{Fault}
use Rattle.tac_lines.specs.declared.refusal.Refusal.{Refusal}
use Rattle.tac_lines.specs.declared.refusal.RefusalKind.TheVariants as kind
use Rattle.tac_lines.specs.declared.token.Keyword.{Keyword}
use Rattle.tac_lines.specs.declared.token.Keyword.TheVariants as keyword
use Rattle.tac_program.specs.Limits.{longest_text}
use Rattle.tac_program.specs.declared.limits.Limits.{Limits}
use Rattle.tac_reader.specs.Faults.{name_faults, refusal_at}
use Rattle.tac_reader.specs.Sections.{sections}

-- How many faults of a text are found: one more than a reader is told, so that it is known whether there are more.
abbrev pub most_found : ℕ
most_found = 21

-- The words of a line. Where it begins with bytes beyond ASCII, as with a byte order mark, those that stand behind them in the line.
abbrev pub first_line : List (List ℕ) → List ℕ
first_line [] = []
first_line (l ∷ ls) = l

abbrev pub words_from : List ℕ → ℕ → List Token
words_from text place = (row_from place zero (first_line (lines (drop place text)))).tokens

abbrev pub words_behind : List ℕ → Option ℕ → List Token
words_behind text None = []
words_behind text (Some place) = words_from text (run_stop is_not_ascii text place)

abbrev pub words_of : List ℕ → List Token → Option ℕ → List Token
words_of text [] bad = words_behind text bad
words_of text (t ∷ ts) bad = t ∷ ts

-- Whether a keyword is meant by a name that the first word is.
abbrev pub is_meant : Keyword → List Token → Bool
is_meant k ts = is_same_but_for_capitals (name_at ts 0) (keyword_text k) || is_near (name_at ts 0) (keyword_text k)

-- Whether the line behind one that is refused stands inside a procedure: `proc` as the first word begins one, and `end` ends it, also misspelt
-- where there is as much else as there should be. Nothing else counts. So one mistake is not told many times.
abbrev pub inside_behind : Bool → List Token → Bool
inside_behind inside ts =
    if stands (key (codes "proc")) ts 0 || (length ts == 2 && is_meant keyword.Proc ts) then true
    else if stands (key (codes "end")) ts 0 || (length ts == 1 && is_meant keyword.End ts) then false else inside

-- Whether the line behind this one, whose first fault is given, stands inside a procedure.
abbrev pub inside_next : List ℕ → Bool → Row → Option Fault → Bool
inside_next text inside row None = inside_after inside row
inside_next text inside row (Some f) = inside_behind inside (words_of text row.tokens row.bad)

-- Of each line that has faults the first one, in the order of lines; and at the end that a procedure is not closed.
abbrev pub first_faults : List ℕ → Bool → List Row → List Fault
first_faults text inside [] = if inside then at kind.Unclosed (length text) else []
first_faults text inside (row ∷ others) = fault_list (first_by_place (row_faults inside row))
    ++ first_faults text (inside_next text inside row (first_by_place (row_faults inside row))) others

abbrev pub or_else : List Fault → List Fault → List Fault
or_else [] others = others
or_else (f ∷ fs) others = f ∷ fs

-- The faults of a text within limits. Names are asked for only where each line is what it should be.
abbrev pub faults_within : Limits → List ℕ → List Fault
faults_within limits text =
    if nat_lt (longest_text limits) (length text) then at kind.TextTooLong 0
    else or_else (first_faults text false (rows text)) (name_faults limits (sections text))

-- The first of them, by line and column.
abbrev pub refusals_within : Limits → List ℕ → List Refusal
refusals_within limits text = map (refusal_at text) (take most_found (faults_within limits text))
