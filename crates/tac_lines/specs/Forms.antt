-- The forms of lines, as one table of what stands in each place.
use Rattle.std.specs.Prelude.{ℕ, zero, suc, Bool, true, false, ◌&&◌, ◌||◌, List, [], ◌∷◌, ◌++◌, map, Option, Some, None, find, if◌then◌else◌, codes}
use Rattle.std.specs.Prelude.{not}
use Rattle.std.specs.List.{list_any}
use Rattle.tac_lines.specs.Tokens.{Word, name, number, fixed, Token}
use Rattle.tac_program.specs.Spelling.{binary_signs, unary_signs, comparison_signs}
use Rattle.tac_program.specs.Names.{is_one_of}
use Rattle.tac_lines.specs.declared.form.Form.{Form}
use Rattle.tac_lines.specs.declared.form.Form.TheVariants as form

-- What may stand in a place of a form: one fixed word, or any word of a kind. A name stands for a procedure, a variable, a label or a callee.
pub data Slot : Type 0 where
  exactly : List ℕ → Slot
  procedure : Slot
  variable : Slot
  operand : Slot
  label : Slot
  callee : Slot
  binary : Slot
  unary : Slot
  comparison : Slot

abbrev pub is_name_word : Word → Bool
is_name_word (name s) = true
is_name_word _ = false

abbrev pub is_number_word : Word → Bool
is_number_word (number n) = true
is_number_word _ = false

abbrev pub is_fixed_in : List (List ℕ) → Word → Bool
is_fixed_in those (fixed s) = is_one_of s those
is_fixed_in those _ = false

abbrev pub fills : Slot → Word → Bool
fills (exactly s) w = is_fixed_in (s ∷ []) w
fills procedure w = is_name_word w
fills variable w = is_name_word w
fills operand w = is_name_word w || is_number_word w
fills label w = is_name_word w
fills callee w = is_name_word w
fills binary w = is_fixed_in binary_signs w
fills unary w = is_fixed_in unary_signs w
fills comparison w = is_fixed_in comparison_signs w

-- Whether a form begins with the tokens, and whether they are the whole of it.
abbrev pub begins : List Slot → List Token → Bool
begins slots [] = true
begins [] (t ∷ ts) = false
begins (s ∷ slots) (t ∷ ts) = fills s t.word && begins slots ts

abbrev pub has_form : List Slot → List Token → Bool
has_form [] [] = true
has_form (s ∷ slots) [] = false
has_form [] (t ∷ ts) = false
has_form (s ∷ slots) (t ∷ ts) = fills s t.word && has_form slots ts

abbrev pub key : List ℕ → Slot
key s = exactly s

abbrev pub proc_form : List Slot
proc_form = key (codes "proc") ∷ procedure ∷ []

abbrev pub end_form : List Slot
end_form = key (codes "end") ∷ []

abbrev pub label_form : List Slot
label_form = label ∷ key (codes ":") ∷ []

-- What may follow the first callee: nothing, or `|`, a callee and what may follow that; at most n callees more.
abbrev pub further_callees : ℕ → List (List Slot)
further_callees zero = [] ∷ []
further_callees (suc n) = [] ∷ map (λ r. key (codes "|") ∷ r) (map (λ r. callee ∷ r) (further_callees n))

-- The table of statements; a call lists one to eight procedures.
abbrev pub plain_statements : List (Form × List Slot)
plain_statements =
    (form.Copy, variable ∷ key (codes "=") ∷ operand ∷ [])
    ∷ (form.Unary, variable ∷ key (codes "=") ∷ unary ∷ operand ∷ [])
    ∷ (form.Binary, variable ∷ key (codes "=") ∷ operand ∷ binary ∷ operand ∷ [])
    ∷ (form.Jump, key (codes "goto") ∷ label ∷ [])
    ∷ (form.Test, key (codes "if") ∷ operand ∷ key (codes "goto") ∷ label ∷ [])
    ∷ (form.NegatedTest, key (codes "ifFalse") ∷ operand ∷ key (codes "goto") ∷ label ∷ [])
    ∷ (form.Comparison, key (codes "if") ∷ operand ∷ comparison ∷ operand ∷ key (codes "goto") ∷ label ∷ [])
    ∷ (form.Return, key (codes "return") ∷ [])
    ∷ (form.Read, key (codes "read") ∷ variable ∷ [])
    ∷ (form.Print, key (codes "print") ∷ operand ∷ [])
    ∷ (form.Skip, key (codes "skip") ∷ [])
    ∷ []

abbrev pub statements : List (Form × List Slot)
statements = plain_statements ++ map (λ r. (form.Call, key (codes "call") ∷ callee ∷ r)) (further_callees 7)

abbrev pub statement_forms : List (List Slot)
statement_forms = map (λ row. row.1) statements

-- A line inside a procedure is labels and what stands behind them.
abbrev pub labels_of : List Token → List Token
labels_of [] = []
labels_of (t ∷ []) = []
labels_of (t ∷ u ∷ ts) = if has_form label_form (t ∷ u ∷ []) then t ∷ labels_of ts else []

abbrev pub behind_labels : List Token → List Token
behind_labels [] = []
behind_labels (t ∷ []) = t ∷ []
behind_labels (t ∷ u ∷ ts) = if has_form label_form (t ∷ u ∷ []) then behind_labels ts else t ∷ u ∷ ts

-- The forms that may stand there: outside or inside a procedure, and there behind labels or not.
abbrev pub forms_for : Bool → List Token → List (List Slot)
forms_for false labels = [] ∷ proc_form ∷ []
forms_for true [] = [] ∷ end_form ∷ statement_forms
forms_for true (t ∷ ts) = [] ∷ statement_forms

abbrev pub some_begins : List (List Slot) → List Token → Bool
some_begins forms ts = list_any (λ f. begins f ts) forms

abbrev pub some_form : List (List Slot) → List Token → Bool
some_form forms ts = list_any (λ f. has_form f ts) forms

-- The first token such that no form begins with the tokens up to and including it.
abbrev pub first_wrong : List (List Slot) → List Token → List Token → Option Token
first_wrong forms before [] = None
first_wrong forms before (t ∷ ts) = elim (some_begins forms (before ++ t ∷ [])) [ true ↦ first_wrong forms (before ++ t ∷ []) ts | false ↦ Some t ]

-- The row of the table that a statement's tokens have, and the tokens in its places.
abbrev pub statement_row : List Token → Option (Form × List Slot)
statement_row ts = find (λ row. has_form row.1 ts) statements

abbrev pub paired : List Slot → List Token → List (Slot × Token)
paired [] ts = []
paired (s ∷ slots) [] = []
paired (s ∷ slots) (t ∷ ts) = (s, t) ∷ paired slots ts

abbrev pub cells_of : List Token → List (Slot × Token)
cells_of ts = elim (statement_row ts) [ None ↦ [] | Some row ↦ paired row.1 ts ]

abbrev pub in_slot : (Slot → Bool) → List (Slot × Token) → List Token
in_slot test [] = []
in_slot test (c ∷ cs) = if test c.0 then c.1 ∷ in_slot test cs else in_slot test cs

abbrev pub is_inner : List Token → Bool
is_inner line = not (has_form proc_form line || has_form end_form line)

abbrev pub is_label : Slot → Bool
is_label label = true
is_label _ = false

abbrev pub is_callee : Slot → Bool
is_callee callee = true
is_callee _ = false

abbrev pub is_variable : Slot → Bool
is_variable variable = true
is_variable operand = true
is_variable _ = false

abbrev pub callees_of : List Token → List Token
callees_of statement = in_slot is_callee (cells_of statement)

abbrev pub jumps_of : List Token → List Token
jumps_of statement = in_slot is_label (cells_of statement)
