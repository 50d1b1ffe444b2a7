-- What is kept of a statement beside its tokens: its form.
use Rattle.std.specs.Prelude.{◌≡◌, ◌-◌, ◌*◌, ℕ, Bool, true, false, not, is_some, All, IsTrue, List, length, slice_range, Option, Some, None}
use Rattle.tac_lines.specs.Tokens.{Token}
use Rattle.tac_lines.specs.Forms.{behind_labels, has_form, labels_of, statement_row}
use Rattle.tac_lines.specs.code.Ranges.{EndsWithin}
use Rattle.tac_lines.specs.code.Views.{form_slots, tokens_view}
use Rattle.tac_lines.specs.declared.form.Form.{Form}
use Rattle.tac_lines.specs.declared.lexed.LineRange.{LineRange}
use Rattle.tac_lines.specs.declared.token.Token.{Token as Placed}
use Rattle.tac_lines.specs.declared.form.Form.TheVariants as form
use Rattle.tac_lines.specs.declared.statement.Role.{Role}
use Rattle.tac_lines.specs.declared.statement.Role.TheVariants as role

-- Whether n tokens have that form, or none of the table.
abbrev pub is_formed : Option Form → ℕ → List Token → Bool
is_formed None n ts = not (is_some (statement_row ts))
is_formed (Some form) n ts = has_form (form_slots form n) ts

-- A line's labels are as many as it says, and its statement has the form that it says.
abbrev pub IsCountedIn : List Placed → LineRange → Type 0
IsCountedIn tokens line = (text : List ℕ) → line.labels ≡ length (labels_of (tokens_view text (slice_range tokens line.first line.end)))

abbrev pub IsFormedIn : List Placed → LineRange → Type 0
IsFormedIn tokens line = (text : List ℕ) → IsTrue (is_formed line.form (length (slice_range tokens line.first line.end) - 2 * line.labels)
    (behind_labels (tokens_view text (slice_range tokens line.first line.end))))

-- Lines that stand within the tokens, each with its labels and its form.
pub record AreLines (tokens : List Placed) (lines : List LineRange) : Type 0 where
  pub within : EndsWithin (length tokens) lines
  pub counted : All (IsCountedIn tokens) lines
  pub formed : All (IsFormedIn tokens) lines

-- Whether all names in a form are variables.
abbrev pub has_only_variables : Form → Bool
has_only_variables form.Copy = true
has_only_variables form.Unary = true
has_only_variables form.Binary = true
has_only_variables form.Jump = false
has_only_variables form.Test = false
has_only_variables form.NegatedTest = false
has_only_variables form.Comparison = false
has_only_variables form.Call = false
has_only_variables form.Return = true
has_only_variables form.Read = true
has_only_variables form.Print = true
has_only_variables form.Skip = true

-- Whether some place of a form has that role.
abbrev pub has_role : Role → Form → Bool
has_role role.Label form.Copy = false
has_role role.Label form.Unary = false
has_role role.Label form.Binary = false
has_role role.Label form.Jump = true
has_role role.Label form.Test = true
has_role role.Label form.NegatedTest = true
has_role role.Label form.Comparison = true
has_role role.Label form.Call = false
has_role role.Label form.Return = false
has_role role.Label form.Read = false
has_role role.Label form.Print = false
has_role role.Label form.Skip = false
has_role role.Callee form.Copy = false
has_role role.Callee form.Unary = false
has_role role.Callee form.Binary = false
has_role role.Callee form.Jump = false
has_role role.Callee form.Test = false
has_role role.Callee form.NegatedTest = false
has_role role.Callee form.Comparison = false
has_role role.Callee form.Call = true
has_role role.Callee form.Return = false
has_role role.Callee form.Read = false
has_role role.Callee form.Print = false
has_role role.Callee form.Skip = false
has_role role.Variable form.Copy = true
has_role role.Variable form.Unary = true
has_role role.Variable form.Binary = true
has_role role.Variable form.Jump = false
has_role role.Variable form.Test = true
has_role role.Variable form.NegatedTest = true
has_role role.Variable form.Comparison = true
has_role role.Variable form.Call = false
has_role role.Variable form.Return = false
has_role role.Variable form.Read = true
has_role role.Variable form.Print = true
has_role role.Variable form.Skip = false
