-- What is told of words and signs that other languages have.
use Rattle.std.specs.Prelude.{ℕ, ◌+◌, ◌-◌, Bool, false, not, ◌&&◌, ◌||◌, ◌==◌, List, [], ◌∷◌, Some, None, slice_get, bytes_eq, codes, nat_le, nat_lt}
use Rattle.std.specs.Prelude.{if◌then◌else◌, length}
use Rattle.tac_lines.specs.Forms.{binary, key, operand, variable}
use Rattle.tac_lines.specs.Tokens.{Token, Word, name, number, fixed, spelling_of, stop_of}
use Rattle.tac_program.specs.Names.{is_one_of}
use Rattle.tac_faults.specs.declared.slips.Bytes.{Bytes}
use Rattle.tac_faults.specs.declared.slips.Hint.{Hint}
use Rattle.tac_faults.specs.declared.slips.Hint.TheVariants as hint
use Rattle.tac_faults.specs.declared.slips.Slip.TheVariants as slip
use Rattle.tac_faults.specs.Hints.Choices.{or_hint}
use Rattle.tac_faults.specs.Hints.Places.{bytes, bytes_at, name_at, stands}

-- How the n-th token is spelled; a number, and a token that is not there, has no bytes.
abbrev pub spelled : List Token → ℕ → List ℕ
spelled ts n = elim (slice_get ts n) [ None ↦ [] | Some t ↦ spelling_of t ]

abbrev pub is_sign : List ℕ → List Token → ℕ → Bool
is_sign sign ts n = bytes_eq (spelled ts n) sign

-- Whether the n-th token is a number.
abbrev pub is_number_at : List Token → ℕ → Bool
is_number_at ts n = stands operand ts n && not (stands variable ts n)

-- The bytes from one token to another.
abbrev pub bytes_between : List Token → (first last : ℕ) → Bytes
bytes_between ts first last = bytes (bytes_at ts first).start (bytes_at ts last).stop

-- A sign behind the first name: with the one behind it, where that is `=`, `+` or `-`.
abbrev pub goes_on : List Token → Bool
goes_on ts = is_sign (codes "=") ts 2 || is_sign (codes "+") ts 2 || is_sign (codes "-") ts 2

abbrev pub assignment_hint : List Token → Hint
assignment_hint ts =
    if stands variable ts 0 && stands binary ts 1
    then hint.Slip slip.Assignment (bytes_between ts 1 (if goes_on ts then 2 else 1)) else hint.None

-- Words with which other languages declare a variable, open a procedure, and write loops and branches.
abbrev pub declares : List ℕ → Bool
declares word =
    is_one_of word (codes "int" ∷ codes "var" ∷ codes "let" ∷ codes "long" ∷ codes "char" ∷ codes "bool" ∷ codes "float" ∷ codes "double"
    ∷ codes "const" ∷ codes "global" ∷ codes "local" ∷ [])

abbrev pub opens : List ℕ → Bool
opens word =
    is_one_of word (codes "procedure" ∷ codes "function" ∷ codes "func" ∷ codes "fn" ∷ codes "def" ∷ codes "sub" ∷ codes "void" ∷ codes "int" ∷ [])

abbrev pub controls : List ℕ → Bool
controls word =
    is_one_of word (codes "while" ∷ codes "for" ∷ codes "do" ∷ codes "else" ∷ codes "elif" ∷ codes "switch" ∷ codes "case" ∷ codes "break"
    ∷ codes "continue" ∷ codes "loop" ∷ codes "until" ∷ codes "repeat" ∷ codes "endif" ∷ [])

abbrev pub declaration_hint : List Token → Hint
declaration_hint ts = if declares (name_at ts 0) then hint.Slip slip.Declaration (bytes_at ts 0) else hint.None

abbrev pub opening_hint : List Token → Hint
opening_hint ts = if opens (name_at ts 0) then hint.Slip slip.Opening (bytes_at ts 0) else hint.None

abbrev pub control_hint : List Token → ℕ → Hint
control_hint ts n = if controls (name_at ts n) then hint.Slip slip.Control (bytes_at ts n) else hint.None

-- `*` or `&` before a name; the same sign does not stand before it.
abbrev pub is_address : List Token → ℕ → Bool
is_address ts n = is_sign (codes "*") ts n || is_sign (codes "&") ts n

abbrev pub pointer_hint : List Token → ℕ → Hint
pointer_hint ts n =
    if is_address ts n && stands variable ts (n + 1) && (n == 0 || not (is_address ts (n - 1)))
    then hint.Slip slip.Pointer (bytes_between ts n (n + 1)) else hint.None

-- `&&` or `||`, of which the n-th token is the first sign.
abbrev pub is_connective : List Token → ℕ → Bool
is_connective ts n =
    is_sign (codes "&") ts n && is_sign (codes "&") ts (n + 1) || is_sign (codes "|") ts n && is_sign (codes "|") ts (n + 1)

abbrev pub connective_at : List Token → ℕ → Hint
connective_at ts n = if is_connective ts n then hint.Slip slip.Connective (bytes_between ts n (n + 1)) else hint.None

abbrev pub connective_hint : List Token → ℕ → Hint
connective_hint ts n = or_hint (connective_at ts n) (connective_at ts (n - 1))

-- A number that a name follows with nothing between them: both.
abbrev pub is_joined : List Token → ℕ → Bool
is_joined ts n = is_number_at ts n && stands variable ts (n + 1) && (bytes_at ts n).stop == (bytes_at ts (n + 1)).start

abbrev pub joined_hint : List Token → ℕ → Hint
joined_hint ts n = if is_joined ts n then hint.Slip slip.NumberAndName (bytes_between ts n (n + 1)) else hint.None

-- Behind which words a name and no number is wanted.
abbrev pub wants_no_number : List Token → ℕ → Bool
wants_no_number ts n =
    stands (key (codes "goto")) ts n || stands (key (codes "call")) ts n || stands (key (codes "read")) ts n || stands (key (codes "proc")) ts n

abbrev pub number_hint : List Token → ℕ → Hint
number_hint ts n = if is_number_at ts n && wants_no_number ts (n - 1) then hint.Slip slip.NumberForName (bytes_at ts n) else hint.None

-- The first token of a line is a number.
abbrev pub first_number_hint : List Token → Hint
first_number_hint ts = or_hint (joined_hint ts 0) (if is_number_at ts 0 then hint.Slip slip.NumberForName (bytes_at ts 0) else hint.None)

-- Behind `end`, or `proc NAME`, there is more.
abbrev pub is_over : List Token → ℕ → Bool
is_over ts n = n == 1 && stands (key (codes "end")) ts 0 || n == 2 && stands (key (codes "proc")) ts 0

abbrev pub own_line_hint : List Token → ℕ → Hint
own_line_hint ts n =
    if is_over ts n && nat_lt n (length ts) then hint.Slip slip.OwnLine (bytes (bytes_at ts n).start (stop_of ts)) else hint.None

-- `=<` or `=>`, and `<>`, of which the n-th token is the wrong sign.
abbrev pub turned_hint : List Token → ℕ → Hint
turned_hint ts n =
    if is_sign (codes "=") ts n && (is_sign (codes "<") ts (n + 1) || is_sign (codes ">") ts (n + 1))
    then hint.Slip slip.Turned (bytes_between ts n (n + 1)) else hint.None

abbrev pub different_hint : List Token → ℕ → Hint
different_hint ts n =
    if is_sign (codes "<") ts (n - 1) && is_sign (codes ">") ts n then hint.Slip slip.Different (bytes_between ts (n - 1) n) else hint.None

abbrev pub negation_hint : List Token → ℕ → Hint
negation_hint ts n =
    if n == 1 && stands (key (codes "if")) ts 0 && is_sign (codes "!") ts 1 then hint.Slip slip.Negation (bytes_at ts 1) else hint.None

abbrev pub colon_hint : List Token → ℕ → Hint
colon_hint ts n =
    if nat_le 2 n && stands (key (codes ":")) ts n && stands (key (codes "goto")) ts (n - 2) then hint.Slip slip.ColonInJump (bytes_at ts n)
    else hint.None

-- Where a statement may have ended: a name that `=` follows.
abbrev pub second_statement_hint : List Token → ℕ → Hint
second_statement_hint ts n =
    if nat_le 2 n && stands operand ts (n - 1) && stands variable ts n && stands (key (codes "=")) ts (n + 1)
    then hint.Slip slip.SecondStatement (bytes_at ts n) else hint.None

-- A slip at the first token of a line, at the second one, and at a later one.
abbrev pub first_slip : List Token → Hint
first_slip ts = or_hint (or_hint (opening_hint ts) (first_number_hint ts)) (pointer_hint ts 0)

abbrev pub second_slip : List Token → Hint
second_slip ts = or_hint (or_hint (declaration_hint ts) (control_hint ts 0)) (assignment_hint ts)

abbrev pub later_slip : List Token → ℕ → Hint
later_slip ts n =
    or_hint (or_hint (or_hint (or_hint (or_hint (or_hint (or_hint (or_hint (or_hint (own_line_hint ts n) (control_hint ts n)) (connective_hint ts n))
    (turned_hint ts n)) (different_hint ts n)) (joined_hint ts (n - 1))) (number_hint ts n)) (negation_hint ts n)) (pointer_hint ts n))
    (or_hint (colon_hint ts n) (second_statement_hint ts n))
