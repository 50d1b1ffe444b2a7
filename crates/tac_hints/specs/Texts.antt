-- What is told on the mend of a fault.
use Rattle.std.specs.Prelude.{ℕ, zero, suc, ◌+◌, ◌-◌, Bool, false, ◌&&◌, ◌==◌, List, [], ◌∷◌, length, take, Some, None, nat_lt, codes}
use Rattle.std.specs.Prelude.{if◌then◌else◌}
use Rattle.tac_lines.specs.Forms.{behind_labels, key}
use Rattle.tac_lines.specs.LineFaults.{first_by_place, line_faults}
use Rattle.tac_lines.specs.Text.{lines}
use Rattle.tac_lines.specs.Tokens.{Row, Token, row_from, rows, stop_of}
use Rattle.tac_lines.specs.declared.refusal.Refusal.{Refusal}
use Rattle.tac_lines.specs.declared.refusal.RefusalKind.{RefusalKind}
use Rattle.tac_lines.specs.declared.refusal.RefusalKind.TheVariants as kind
use Rattle.tac_program.specs.Limits.{longest_name, longest_text}
use Rattle.tac_program.specs.declared.limits.Limits.{Limits}
use Rattle.tac_reader.specs.Sections.{sections}
use Rattle.tac_faults.specs.declared.slips.Bytes.{Bytes}
use Rattle.tac_faults.specs.declared.slips.Hint.{Hint}
use Rattle.tac_faults.specs.declared.slips.Hint.TheVariants as hint
use Rattle.tac_hints.specs.Bytes.{byte_hint}
use Rattle.tac_faults.specs.Hints.Choices.{or_hint}
use Rattle.tac_hints.specs.Lines.{comment_hint, first_hint, statement_hint}
use Rattle.tac_hints.specs.Names.{name_hint}
use Rattle.tac_faults.specs.Hints.Places.{bytes, bytes_at, count_before, stands}

-- The n-th line, from 0: where it starts, and its bytes.
abbrev pub nth_line : ℕ → ℕ → List (List ℕ) → ℕ × List ℕ
nth_line n start [] = (start, [])
nth_line zero start (l ∷ ls) = (start, l)
nth_line (suc n) start (l ∷ ls) = nth_line n (start + length l) ls

abbrev pub line_of : List ℕ → Refusal → ℕ × List ℕ
line_of text r = nth_line (r.line - 1) 0 (lines text)

abbrev pub row_of : List ℕ → Refusal → Row
row_of text r = row_from (line_of text r).0 zero (line_of text r).1

abbrev pub place_of : List ℕ → Refusal → ℕ
place_of text r = (line_of text r).0 + (r.column - 1)

abbrev pub long_name_hint : Bytes → Hint
long_name_hint b = hint.LongName b (b.stop - b.start - longest_name)

-- Of a line that is no line form, by its tokens and the first wrong place.
abbrev pub form_hint : List Token → ℕ → Hint
form_hint ts place =
    if count_before ts place == 0 then first_hint ts else statement_hint (behind_labels ts) (count_before (behind_labels ts) place)

abbrev pub syntax_hint : List ℕ → List Token → ℕ → Hint
syntax_hint text ts place = or_hint (comment_hint text place) (form_hint ts place)

-- Of a fault that a line shows by itself.
abbrev pub token_hint : RefusalKind → List ℕ → List Token → ℕ → Hint
token_hint kind.BadByte text ts place = if nat_lt place (length text) then byte_hint text ts place else hint.None
token_hint kind.NumberTooLarge text ts place = hint.LargeNumber (bytes_at ts (count_before ts place))
token_hint kind.NameTooLong text ts place = long_name_hint (bytes_at ts (count_before ts place))
token_hint kind.Syntax text ts place = syntax_hint text ts place
token_hint _ text ts place = hint.None

-- Of a procedure that is not closed: the last of these lines that begins with `proc`. Lines have numbers, here from the first one's on.
abbrev pub opened_line : ℕ → List Token → Hint → Hint
opened_line line ts before =
    if stands (key (codes "proc")) ts 0 then hint.EndLacks line (bytes (bytes_at ts 0).start (stop_of ts)) else before

abbrev pub opened_hint : ℕ → List Row → Hint → Hint
opened_hint line [] before = before
opened_hint line (row ∷ others) before = opened_hint (line + 1) others (opened_line line row.tokens before)

-- Whether a line begins with `proc` at that place, where no `proc` may stand.
abbrev pub opens_again : RefusalKind → List Token → ℕ → Bool
opens_again kind.Syntax ts place = count_before ts place == 0 && stands (key (codes "proc")) ts 0
opens_again _ ts place = false

abbrev pub line_hint : List ℕ → Refusal → Hint
line_hint text r =
    if nat_lt (length text) (place_of text r) then hint.None
    else if opens_again r.kind (row_of text r).tokens (place_of text r) then opened_hint 1 (take (r.line - 1) (rows text)) hint.None
    else token_hint r.kind text (row_of text r).tokens (place_of text r)

-- Of a fault of names, which is told only where no line has a fault.
abbrev pub names_hint : Limits → List ℕ → Refusal → Hint
names_hint limits text r =
    elim (first_by_place (line_faults false (length text) (rows text))) [
      | Some f ↦ hint.None
      | None ↦ name_hint limits r.kind text (sections text) (place_of text r)
    ]

abbrev pub kind_hint : RefusalKind → Limits → List ℕ → Refusal → Hint
kind_hint kind.BadByte limits text r = line_hint text r
kind_hint kind.NumberTooLarge limits text r = line_hint text r
kind_hint kind.NameTooLong limits text r = line_hint text r
kind_hint kind.Syntax limits text r = line_hint text r
kind_hint kind.Unclosed limits text r = opened_hint 1 (take r.line (rows text)) hint.None
kind_hint kind.TextTooLong limits text r = hint.None
kind_hint _ limits text r = names_hint limits text r

-- What is told of a fault of a text within limits; of a text that is too long, by how much.
abbrev pub hint_of : Limits → List ℕ → Refusal → Hint
hint_of limits text r =
    if nat_lt (longest_text limits) (length text) then hint.LongText (length text - longest_text limits) else kind_hint r.kind limits text r
