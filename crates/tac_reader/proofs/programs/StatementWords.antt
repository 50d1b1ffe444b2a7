-- What a statement's words say, by its form.
use Rattle.std.proofs.Common.{◌≡◌, ℕ, List, [], ◌∷◌, length, map, refl, ap, ◌∙◌, arith, Option, Some, None, option_map}
use Rattle.tac_lines.specs.Tokens.{Token}
use Rattle.tac_lines.specs.Forms.{Slot, statement_row}
use Rattle.tac_reader.specs.Parses.{kind_of, form_of, variable_of, operand_of, operator_of, label_of}
use Rattle.tac_program.specs.Names.{Names}
use Rattle.tac_lines.specs.code.Views.{form_slots}
use Rattle.tac_reader.specs.code.Built.{word_nth}
use Rattle.tac_lines.specs.declared.form.Form.{Form}
use Rattle.tac_lines.specs.declared.form.Form.TheVariants as form
use Rattle.tac_program.specs.declared.program.StmtKind.TheVariants as kind

pub row_form : (ts : List Token) (row : Form × List Slot) → statement_row ts ≡ Some row → form_of ts ≡ row.0
row_form ts row e = ap (λ o. elim o as (λ _. Form) [ None ↦ form.Skip | Some r ↦ r.0 ]) e

module _ (names : Names) (cs : List ℕ) where
  pub copy_words : (ts : List Token) → length ts ≡ 3
      → kind.Copy (variable_of names (word_nth ts 0)) (operand_of names (word_nth ts 2)) ≡ kind_of names cs form.Copy (map (λ t. t.word) ts)
  copy_words [] h = absurd (omega (arith, h))
  copy_words (a ∷ []) h = absurd (omega (arith, h))
  copy_words (a ∷ b ∷ []) h = absurd (omega (arith, h))
  copy_words (a ∷ b ∷ c ∷ cs) h = refl

  pub jump_words : (ts : List Token) → length ts ≡ 2 → kind.Goto (label_of names (word_nth ts 1)) ≡ kind_of names cs form.Jump (map (λ t. t.word) ts)
  jump_words [] h = absurd (omega (arith, h))
  jump_words (a ∷ []) h = absurd (omega (arith, h))
  jump_words (a ∷ b ∷ bs) h = refl

  pub test_words : (ts : List Token) → length ts ≡ 4
      → kind.If (operand_of names (word_nth ts 1)) (label_of names (word_nth ts 3)) ≡ kind_of names cs form.Test (map (λ t. t.word) ts)
  test_words [] h = absurd (omega (arith, h))
  test_words (a ∷ []) h = absurd (omega (arith, h))
  test_words (a ∷ b ∷ []) h = absurd (omega (arith, h))
  test_words (a ∷ b ∷ c ∷ []) h = absurd (omega (arith, h))
  test_words (a ∷ b ∷ c ∷ d ∷ ds) h = refl

  pub negated_words : (ts : List Token) → length ts ≡ 4
      → kind.IfFalse (operand_of names (word_nth ts 1)) (label_of names (word_nth ts 3)) ≡ kind_of names cs form.NegatedTest (map (λ t. t.word) ts)
  negated_words [] h = absurd (omega (arith, h))
  negated_words (a ∷ []) h = absurd (omega (arith, h))
  negated_words (a ∷ b ∷ []) h = absurd (omega (arith, h))
  negated_words (a ∷ b ∷ c ∷ []) h = absurd (omega (arith, h))
  negated_words (a ∷ b ∷ c ∷ d ∷ ds) h = refl

  pub read_words : (ts : List Token) → length ts ≡ 2
      → kind.Read (variable_of names (word_nth ts 1)) ≡ kind_of names cs form.Read (map (λ t. t.word) ts)
  read_words [] h = absurd (omega (arith, h))
  read_words (a ∷ []) h = absurd (omega (arith, h))
  read_words (a ∷ b ∷ bs) h = refl

  pub print_words : (ts : List Token) → length ts ≡ 2
      → kind.Print (operand_of names (word_nth ts 1)) ≡ kind_of names cs form.Print (map (λ t. t.word) ts)
  print_words [] h = absurd (omega (arith, h))
  print_words (a ∷ []) h = absurd (omega (arith, h))
  print_words (a ∷ b ∷ bs) h = refl

  pub unary_words : (ts : List Token) → length ts ≡ 4 → kind.Unary (variable_of names (word_nth ts 0)) (operator_of (word_nth ts 2))
      (operand_of names (word_nth ts 3)) ≡ kind_of names cs form.Unary (map (λ t. t.word) ts)
  unary_words [] h = absurd (omega (arith, h))
  unary_words (a ∷ []) h = absurd (omega (arith, h))
  unary_words (a ∷ b ∷ []) h = absurd (omega (arith, h))
  unary_words (a ∷ b ∷ c ∷ []) h = absurd (omega (arith, h))
  unary_words (a ∷ b ∷ c ∷ d ∷ ds) h = refl

  pub binary_words : (ts : List Token) → length ts ≡ 5 → kind.Binary (operator_of (word_nth ts 3)) (variable_of names (word_nth ts 0))
      (operand_of names (word_nth ts 2)) (operand_of names (word_nth ts 4)) ≡ kind_of names cs form.Binary (map (λ t. t.word) ts)
  binary_words [] h = absurd (omega (arith, h))
  binary_words (a ∷ []) h = absurd (omega (arith, h))
  binary_words (a ∷ b ∷ []) h = absurd (omega (arith, h))
  binary_words (a ∷ b ∷ c ∷ []) h = absurd (omega (arith, h))
  binary_words (a ∷ b ∷ c ∷ d ∷ []) h = absurd (omega (arith, h))
  binary_words (a ∷ b ∷ c ∷ d ∷ e ∷ es) h = refl

  pub comparison_words : (ts : List Token) → length ts ≡ 6 → kind.IfCompare (operator_of (word_nth ts 2)) (label_of names (word_nth ts 5))
      (operand_of names (word_nth ts 1)) (operand_of names (word_nth ts 3)) ≡ kind_of names cs form.Comparison (map (λ t. t.word) ts)
  comparison_words [] h = absurd (omega (arith, h))
  comparison_words (a ∷ []) h = absurd (omega (arith, h))
  comparison_words (a ∷ b ∷ []) h = absurd (omega (arith, h))
  comparison_words (a ∷ b ∷ c ∷ []) h = absurd (omega (arith, h))
  comparison_words (a ∷ b ∷ c ∷ d ∷ []) h = absurd (omega (arith, h))
  comparison_words (a ∷ b ∷ c ∷ d ∷ e ∷ []) h = absurd (omega (arith, h))
  comparison_words (a ∷ b ∷ c ∷ d ∷ e ∷ f ∷ fs) h = refl

-- The table's row of a form that the code found.
pub row_of : (ts : List Token) (n : ℕ) (found : Option Form) (field f : Form) → statement_row ts ≡ option_map (λ g. (g, form_slots g n)) found
    → found ≡ Some field → field ≡ f → statement_row ts ≡ Some (f, form_slots f n)
row_of ts n found field f e g h =
    e ∙ ap (option_map (λ k. let r : Form × List Slot = (k, form_slots k n) in r)) (g ∙ ap (λ k. let o : Option Form = Some k in o) h)
