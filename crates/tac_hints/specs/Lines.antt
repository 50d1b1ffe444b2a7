-- What is told of a line that is no line form.
use Rattle.std.specs.Prelude.{ℕ, ◌+◌, ◌-◌, Bool, false, ◌&&◌, ◌||◌, ◌==◌, List, [], ◌∷◌, length, count_by, Option, Some, None, find, nat_le}
use Rattle.std.specs.Prelude.{nat_lt, slice_get, slice_index, bytes_eq, codes, if◌then◌else◌}
use Rattle.tac_lines.specs.Forms.{binary, fills, key, operand, unary, variable}
use Rattle.tac_lines.specs.Tokens.{Token, Word, name, number, fixed, stop_of}
use Rattle.tac_lines.specs.code.Views.{keyword_text}
use Rattle.tac_lines.specs.declared.token.Keyword.{Keyword}
use Rattle.tac_lines.specs.declared.token.Keyword.TheVariants as keyword
use Rattle.tac_program.specs.Names.{is_one_of}
use Rattle.tac_program.specs.Spelling.{keywords}
use Rattle.tac_faults.specs.declared.slips.Bytes.{Bytes}
use Rattle.tac_faults.specs.declared.slips.Hint.{Hint}
use Rattle.tac_faults.specs.declared.slips.Hint.TheVariants as hint
use Rattle.tac_faults.specs.Hints.Choices.{or_hint}
use Rattle.tac_faults.specs.Hints.Near.{is_near, is_same_but_for_capitals}
use Rattle.tac_faults.specs.Hints.Places.{bytes, bytes_at, name_at, stands}
use Rattle.tac_slips.specs.Slips.{first_slip, later_slip, second_slip}

abbrev pub is_keyword_word : Word → Bool
is_keyword_word (name s) = false
is_keyword_word (number n) = false
is_keyword_word (fixed s) = is_one_of s keywords

abbrev pub is_keyword : List Token → ℕ → Bool
is_keyword ts n = elim (slice_get ts n) [ None ↦ false | Some t ↦ is_keyword_word t.word ]

abbrev pub is_test : List Token → Bool
is_test ts = stands (key (codes "if")) ts 0 || stands (key (codes "ifFalse")) ts 0

-- `//` or `/*` at the place, or from the byte before it on.
abbrev pub is_foreign : List ℕ → ℕ → Bool
is_foreign text place = slice_index text place == 47 && (slice_index text (place + 1) == 47 || slice_index text (place + 1) == 42)

abbrev pub comment_hint : List ℕ → ℕ → Hint
comment_hint text place =
    if is_foreign text place then hint.Comment (bytes place (place + 2))
    else if nat_lt 0 place && is_foreign text (place - 1) then hint.Comment (bytes (place - 1) (place + 1)) else hint.None

-- The keyword that is meant by a name: one that has its letters but for capitals, else one that is a slip away from two letters or more.
abbrev pub misspelt_hint : Option Keyword → Bytes → Hint
misspelt_hint None place = hint.None
misspelt_hint (Some k) place = hint.Misspelt k place

abbrev pub capitals_hint : Option Keyword → Bytes → Hint
capitals_hint None place = hint.None
capitals_hint (Some k) place = hint.Capitals k place

abbrev pub keyword_hint : List Keyword → List ℕ → Bytes → Hint
keyword_hint ks s place =
    or_hint (capitals_hint (find (λ k. is_same_but_for_capitals s (keyword_text k)) ks) place)
    (if nat_lt 1 (length s) then misspelt_hint (find (λ k. is_near s (keyword_text k)) ks) place else hint.None)

abbrev pub all_keywords : List Keyword
all_keywords =
    keyword.Proc ∷ keyword.End ∷ keyword.Goto ∷ keyword.If ∷ keyword.IfFalse ∷ keyword.Call ∷ keyword.Return ∷ keyword.Read ∷ keyword.Print
    ∷ keyword.Skip ∷ []

-- The line's first token is wrong: `proc` is misspelt there, it is as in other languages, or the line stands outside a procedure.
abbrev pub first_hint : List Token → Hint
first_hint ts =
    or_hint (or_hint (keyword_hint (keyword.Proc ∷ []) (name_at ts 0) (bytes_at ts 0)) (first_slip ts))
    (if stands variable ts 0 || is_keyword ts 0 then hint.Outside (bytes_at ts 0) else hint.None)

-- Behind labels the first token is wrong.
abbrev pub labelled_hint : List Token → Hint
labelled_hint ts =
    if stands (key (codes "end")) ts 0 || stands (key (codes "proc")) ts 0 then hint.LabelBefore (bytes_at ts 0)
    else if stands (key (codes "=")) ts 0 then hint.ColonEquals (bytes_at ts 0) else hint.None

-- The second token is wrong behind a keyword that is used as a name, behind `return`, and behind a misspelt keyword.
abbrev pub taken_hint : List Token → Hint
taken_hint ts =
    if is_keyword ts 0 && (stands (key (codes "=")) ts 1 || stands (key (codes ":")) ts 1) then hint.Reserved (bytes_at ts 0) else hint.None

abbrev pub returned_hint : List Token → Hint
returned_hint ts =
    if stands (key (codes "return")) ts 0 && nat_lt 1 (length ts) then hint.Returned (bytes (bytes_at ts 1).start (stop_of ts)) else hint.None

abbrev pub begun_by : List Token → Hint
begun_by ts =
    if stands variable ts 0 && (stands operand ts 1 || is_keyword ts 1 || nat_le (length ts) 1)
    then keyword_hint all_keywords (name_at ts 0) (bytes_at ts 0)
    else hint.None

abbrev pub second_hint : List Token → Hint
second_hint ts = or_hint (or_hint (or_hint (taken_hint ts) (returned_hint ts)) (second_slip ts)) (begun_by ts)

-- The n-th token is wrong, or there is none.
abbrev pub unfinished_hint : List Token → ℕ → Hint
unfinished_hint ts n = if nat_le (length ts) n then hint.Unfinished (bytes_at ts (n - 1)) else hint.None

abbrev pub equals_hint : List Token → ℕ → Hint
equals_hint ts n = if n == 2 && is_test ts && stands (key (codes "=")) ts n then hint.EqualsInTest (bytes_at ts n) else hint.None

abbrev pub then_hint : List Token → ℕ → Hint
then_hint ts n = if is_test ts && bytes_eq (name_at ts n) (codes "then") then hint.Then (bytes_at ts n) else hint.None

abbrev pub goto_hint : List Token → ℕ → Hint
goto_hint ts n = if is_test ts then keyword_hint (keyword.Goto ∷ []) (name_at ts n) (bytes_at ts n) else hint.None

-- Behind which words a name, or an operand, is wanted.
abbrev pub wants_operand : List Token → ℕ → Bool
wants_operand ts n =
    stands binary ts n || stands (key (codes "if")) ts n || stands (key (codes "ifFalse")) ts n || stands (key (codes "print")) ts n

abbrev pub wants_name : List Token → ℕ → Bool
wants_name ts n =
    wants_operand ts n || stands (key (codes "=")) ts n || stands unary ts n || stands (key (codes "goto")) ts n || stands (key (codes "call")) ts n
    || stands (key (codes "read")) ts n || stands (key (codes "proc")) ts n

abbrev pub reserved_hint : List Token → ℕ → Hint
reserved_hint ts n = if is_keyword ts n && wants_name ts (n - 1) then hint.Reserved (bytes_at ts n) else hint.None

abbrev pub negative_hint : List Token → ℕ → Hint
negative_hint ts n =
    if stands unary ts n && stands operand ts (n + 1) && wants_operand ts (n - 1)
    then hint.Negative (bytes (bytes_at ts n).start (bytes_at ts (n + 1)).stop) else hint.None

abbrev pub operator_hint : List Token → ℕ → Hint
operator_hint ts n =
    if nat_le 2 n && stands binary ts n && stands operand ts (n - 1)
    && (stands (key (codes "=")) ts 1 || is_test ts || stands (key (codes "print")) ts 0)
    then hint.SecondOperator (bytes_at ts n) else hint.None

-- A call lists at most eight procedures, with seven bars between them.
abbrev pub callees_hint : List Token → ℕ → Hint
callees_hint ts n =
    if n == 16 && stands (key (codes "call")) ts 0 && stands (key (codes "|")) ts n
    then hint.ManyCallees (count_by (λ t. fills (key (codes "|")) t.word) ts - 7) else hint.None

abbrev pub later_hint : List Token → ℕ → Hint
later_hint ts n =
    or_hint (or_hint (or_hint (or_hint (or_hint (or_hint (or_hint (or_hint (unfinished_hint ts n) (later_slip ts n)) (equals_hint ts n)) (then_hint ts n))
    (goto_hint ts n)) (reserved_hint ts n)) (negative_hint ts n)) (operator_hint ts n)) (callees_hint ts n)

-- Of a statement whose n-th token is the first that is wrong.
abbrev pub statement_hint : List Token → ℕ → Hint
statement_hint ts n =
    if n == 0 then or_hint (labelled_hint ts) (first_slip ts) else or_hint (if n == 1 then second_hint ts else hint.None) (later_hint ts n)
