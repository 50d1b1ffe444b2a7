-- What the code's tokens, lines and sections stand for.
use Rattle.std.specs.Prelude.{◌≡◌, ℕ, zero, suc, ◌-◌, Bool, true, false, List, [], ◌∷◌, map, take, codes, Option, Some, None, slice_range, slice_get}
use Rattle.std.specs.Prelude.{◌&&◌, if◌then◌else◌}
use Rattle.tac_lines.specs.Tokens.{Word, name, number, fixed, Piece, word, gap, Token, value_of}
use Rattle.tac_lines.specs.Forms.{Slot, fills, key, procedure, variable, operand, label, callee, binary, unary, comparison, end_form, proc_form}
use Rattle.tac_lines.specs.Forms.{statement_forms, labels_of, behind_labels, some_form, first_wrong}
use Rattle.tac_lines.specs.LineFaults.{earlier, at}
use Rattle.tac_lines.specs.declared.refusal.RefusalKind.TheVariants.{Syntax}
use Rattle.tac_program.specs.Spelling.{sign_of}
use Rattle.tac_lines.specs.declared.fault.Fault.{Fault}
use Rattle.tac_lines.specs.declared.form.Form.{Form}
use Rattle.tac_lines.specs.declared.form.Form.TheVariants as form
use Rattle.tac_lines.specs.declared.form.Slot.{Slot as Wanted}
use Rattle.tac_lines.specs.declared.form.Slot.TheVariants as wanted
use Rattle.tac_lines.specs.declared.form.Walk.{Walk}
use Rattle.tac_lines.specs.declared.form.Walk.TheVariants.{Wrong, Unfinished, Whole}
use Rattle.tac_lines.specs.declared.token.Keyword.{Keyword}
use Rattle.tac_lines.specs.declared.token.Keyword.TheVariants as keyword
use Rattle.tac_lines.specs.declared.token.TokenKind.{TokenKind}
use Rattle.tac_lines.specs.declared.token.TokenKind.TheVariants as kind
use Rattle.tac_lines.specs.declared.token.Token.{Token as Lexed}

abbrev pub keyword_text : Keyword → List ℕ
keyword_text keyword.Proc = codes "proc"
keyword_text keyword.End = codes "end"
keyword_text keyword.Goto = codes "goto"
keyword_text keyword.If = codes "if"
keyword_text keyword.IfFalse = codes "ifFalse"
keyword_text keyword.Call = codes "call"
keyword_text keyword.Return = codes "return"
keyword_text keyword.Read = codes "read"
keyword_text keyword.Print = codes "print"
keyword_text keyword.Skip = codes "skip"

-- The word of this kind that is spelled so.
abbrev pub word_at : List ℕ → TokenKind → Word
word_at s kind.Name = name s
word_at s kind.Number = number (value_of s)
word_at s (kind.Keyword k) = fixed (keyword_text k)
word_at s kind.Colon = fixed (codes ":")
word_at s kind.Equals = fixed (codes "=")
word_at s (kind.Operator o) = fixed (sign_of o)

-- The piece that is spelled so: of this kind, or a gap.
abbrev pub piece_at : List ℕ → Option TokenKind → Piece
piece_at s None = gap
piece_at s (Some k) = word (word_at s k)

-- A piece at the front, by its length and kind.
abbrev pub front_view : List ℕ → (ℕ × Option TokenKind) → ℕ × Piece
front_view rest found = (found.0, piece_at (take found.0 rest) found.1)

abbrev pub token_view : List ℕ → Lexed → Token
token_view text t = record { word = word_at (slice_range text t.start t.stop) t.kind; start = t.start; stop = t.stop }

abbrev pub tokens_view : List ℕ → List Lexed → List Token
tokens_view text ts = map (token_view text) ts

-- Two tables judge the tokens alike.
pub record GoesAsFar (fs gs : List (List Slot)) (ts : List Token) : Type 0 where
  pub wrong : first_wrong fs [] ts ≡ first_wrong gs [] ts
  pub whole : some_form fs ts ≡ some_form gs ts

-- What may follow the first callee of a call, as far as k tokens can fill it, to the next callee; at most n callees.
abbrev pub further_slots : ℕ → ℕ → List Slot
further_slots zero k = []
further_slots (suc n) zero = []
further_slots (suc n) (suc zero) = key (codes "|") ∷ callee ∷ []
further_slots (suc n) (suc (suc k)) = key (codes "|") ∷ callee ∷ further_slots n k

-- The places of a form; of a call those that n tokens can fill.
abbrev pub form_slots : Form → ℕ → List Slot
form_slots form.Copy n = variable ∷ key (codes "=") ∷ operand ∷ []
form_slots form.Unary n = variable ∷ key (codes "=") ∷ unary ∷ operand ∷ []
form_slots form.Binary n = variable ∷ key (codes "=") ∷ operand ∷ binary ∷ operand ∷ []
form_slots form.Jump n = key (codes "goto") ∷ label ∷ []
form_slots form.Test n = key (codes "if") ∷ operand ∷ key (codes "goto") ∷ label ∷ []
form_slots form.NegatedTest n = key (codes "ifFalse") ∷ operand ∷ key (codes "goto") ∷ label ∷ []
form_slots form.Comparison n = key (codes "if") ∷ operand ∷ comparison ∷ operand ∷ key (codes "goto") ∷ label ∷ []
form_slots form.Call n = key (codes "call") ∷ callee ∷ further_slots 7 (n - 2)
form_slots form.Return n = key (codes "return") ∷ []
form_slots form.Read n = key (codes "read") ∷ variable ∷ []
form_slots form.Print n = key (codes "print") ∷ operand ∷ []
form_slots form.Skip n = key (codes "skip") ∷ []

-- What the code's slots ask for.
abbrev pub slot_view : Wanted → Slot
slot_view (wanted.Keyword k) = key (keyword_text k)
slot_view wanted.Colon = key (codes ":")
slot_view wanted.Equals = key (codes "=")
slot_view wanted.Bar = key (codes "|")
slot_view wanted.Procedure = procedure
slot_view wanted.Variable = variable
slot_view wanted.Operand = operand
slot_view wanted.Label = label
slot_view wanted.Callee = callee
slot_view wanted.Binary = binary
slot_view wanted.Unary = unary
slot_view wanted.Comparison = comparison

abbrev pub slots_view : List Wanted → List Slot
slots_view slots = map slot_view slots

-- What a walk along a form found.
abbrev pub wrong_of : Walk → Option ℕ
wrong_of (Wrong place) = Some place
wrong_of Unfinished = None
wrong_of Whole = None

abbrev pub is_whole : Walk → Bool
is_whole (Wrong place) = false
is_whole Unfinished = false
is_whole Whole = true

-- Whether there is a token, and its word fills such a slot.
abbrev pub fills_at : List ℕ → Slot → Option Lexed → Bool
fills_at text s None = false
fills_at text s (Some t) = fills s (token_view text t).word

-- Whether a label stands at the front.
abbrev pub starts_label : List ℕ → List Lexed → Bool
starts_label text ts = fills_at text label (slice_get ts 0) && fills_at text (key (codes ":")) (slice_get ts 1)

-- The one form of a keyword that has one. `if` and `call` are told apart before, and `proc` and `end` begin no statement.
abbrev pub of_key : Keyword → Form
of_key keyword.Proc = form.Skip
of_key keyword.End = form.Skip
of_key keyword.Goto = form.Jump
of_key keyword.If = form.Skip
of_key keyword.IfFalse = form.NegatedTest
of_key keyword.Call = form.Skip
of_key keyword.Return = form.Return
of_key keyword.Read = form.Read
of_key keyword.Print = form.Print
of_key keyword.Skip = form.Skip

-- The forms of lines that may stand there: outside or inside a procedure, and there without labels or behind them.
abbrev pub line_forms : Bool → Bool → List (List Slot)
line_forms false labelled = [] ∷ proc_form ∷ []
line_forms true false = [] ∷ end_form ∷ statement_forms
line_forms true true = [] ∷ statement_forms

-- The labels before a line inside a procedure, and what stands behind them.
abbrev pub prefix_of : Bool → List Token → List Token
prefix_of inside ts = if inside then labels_of ts else []

abbrev pub others_of : Bool → List Token → List Token
others_of inside ts = if inside then behind_labels ts else ts

-- The fault that a walk along the line's form tells.
abbrev pub verdict : Walk → Bool → ℕ → List Fault
verdict (Wrong place) cut stop = at Syntax place
verdict Unfinished cut stop = if cut then [] else at Syntax stop
verdict Whole cut stop = []

abbrev pub fault_list : Option Fault → List Fault
fault_list None = []
fault_list (Some f) = f ∷ []

abbrev pub merged : Option Fault → Option Fault → Option Fault
merged None b = b
merged (Some f) b = Some (earlier f b)
