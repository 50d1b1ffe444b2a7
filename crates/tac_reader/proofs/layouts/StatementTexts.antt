-- The text of a statement is the layout of its words.
use Rattle.std.proofs.Common.{◌≡◌, ℕ, Bool, true, false, ◌&&◌, List, [], ◌∷◌, ◌++◌, map, refl, sym, ap, ◌∙◌, bytes_eq, codes, append_assoc}
use Rattle.std.proofs.Common.{true≢false, if◌then◌else◌}
use Rattle.std.specs.List.{AllByRecursion as Each, list_all}
use Rattle.std.specs.Cmp.Lexicographic.{same_text}
use Rattle.std.proofs.lemmas.Bool.{and_parts}
use Rattle.tac_lines.specs.Tokens.{Word, Token, bytes_of, spelling_of}
use Rattle.tac_lines.specs.Forms.{Slot, exactly, procedure, variable, operand, label, callee, binary, unary, comparison, key, statements}
use Rattle.tac_lines.specs.Forms.{plain_statements, further_callees, paired, in_slot, is_callee}
use Rattle.tac_program.specs.Programs.{number_of}
use Rattle.tac_reader.specs.Parses.{variable_of, label_of, operand_of, operator_of, kind_of}
use Rattle.tac_program.specs.Spelling.{sign_of}
use Rattle.tac_program.specs.Names.{Names, name_at}
use Rattle.tac_listing.specs.Listings.{operand_text, binary_text, goto_text, callees_text, statement_text}
use Rattle.tac_lines.specs.declared.form.Form.{Form}
use Rattle.tac_lines.specs.declared.form.Form.TheVariants as form
use Rattle.tac_program.proofs.lists.Elements.{each-append}
use Rattle.tac_reader.proofs.tokens.Bare.{words_of}
use Rattle.tac_reader.proofs.tokens.ReadWords.{spelled}
use Rattle.tac_reader.proofs.layouts.Layouts.{layout}

-- What a word in a place of a statement reads as is written as the word.
abbrev pub Resolves : Names → Slot → Word → Type 0
Resolves names (exactly s) w = spelled w ≡ s
Resolves names variable w = name_at names.variables (variable_of names w) ≡ spelled w
Resolves names operand w = operand_text names (operand_of names w) ≡ spelled w
Resolves names label w = name_at names.labels (label_of names w) ≡ spelled w
Resolves names callee w = name_at names.procedures (number_of names.procedures (bytes_of w)) ≡ spelled w
Resolves names binary w = sign_of (operator_of w) ≡ spelled w
Resolves names unary w = sign_of (operator_of w) ≡ spelled w
Resolves names comparison w = sign_of (operator_of w) ≡ spelled w
Resolves names procedure w = Unit {0}

abbrev pub Resolved : Names → List Slot → List Word → Type 0
Resolved names [] [] = Unit {0}
Resolved names [] (w ∷ ws) = ⊥
Resolved names (s ∷ ss) [] = ⊥
Resolved names (s ∷ ss) (w ∷ ws) = Resolves names s w × Resolved names ss ws

five : (a b c d e : List ℕ) → (((a ++ b) ++ c) ++ d) ++ e ≡ a ++ (b ++ (c ++ (d ++ e)))
five a b c d e = simp append_assoc

-- The callees of a statement, by number.
abbrev pub callee_numbers : List (List ℕ) → List Slot → List Word → List ℕ
callee_numbers names [] ws = []
callee_numbers names (s ∷ ss) [] = []
callee_numbers names (s ∷ ss) (w ∷ ws) = if is_callee s then number_of names (bytes_of w) ∷ callee_numbers names ss ws else callee_numbers names ss ws

pub numbers_are : (names : List (List ℕ)) (slots : List Slot) (ts : List Token)
    → map (λ t. number_of names (spelling_of t)) (in_slot is_callee (paired slots ts)) ≡ callee_numbers names slots (words_of ts)
numbers_are names [] ts = refl
numbers_are names (s ∷ ss) [] = refl
numbers_are names (s ∷ ss) (t ∷ ts) = by_test (is_callee s) (numbers_are names ss ts) where
  by_test : (b : Bool) → map (λ t. number_of names (spelling_of t)) (in_slot is_callee (paired ss ts)) ≡ callee_numbers names ss (words_of ts)
      → map (λ t. number_of names (spelling_of t)) (if b then t ∷ in_slot is_callee (paired ss ts) else in_slot is_callee (paired ss ts))
      ≡ (if b then number_of names (spelling_of t) ∷ callee_numbers names ss (words_of ts) else callee_numbers names ss (words_of ts))
  by_test true e = ap (λ r. number_of names (spelling_of t) ∷ r) e
  by_test false e = e

-- Each row of the table.
abbrev pub IsWritten : Names → Form × List Slot → Type 0
IsWritten names row = (ws : List Word) → Resolved names row.1 ws
    → statement_text names (kind_of names (callee_numbers names.procedures row.1 ws) row.0 ws) ≡ layout row.1 ws

module _ (names : Names) where
  copy_written : IsWritten names (form.Copy, variable ∷ key (codes "=") ∷ operand ∷ [])
  copy_written (x ∷ e ∷ y ∷ []) h =
      append_assoc (name_at names.variables (variable_of names x)) (codes " = ") (operand_text names (operand_of names y))
      ∙ (λ i. h.0 i ++ 32 ∷ (sym h.1.0 i ++ 32 ∷ h.1.1.0 i))
  copy_written [] h = absurd h
  copy_written (x ∷ []) h = absurd h.1
  copy_written (x ∷ e ∷ []) h = absurd h.1.1
  copy_written (x ∷ e ∷ y ∷ z ∷ zs) h = absurd h.1.1.1

  unary_written : IsWritten names (form.Unary, variable ∷ key (codes "=") ∷ unary ∷ operand ∷ [])
  unary_written (x ∷ e ∷ o ∷ y ∷ []) h =
      append_assoc (name_at names.variables (variable_of names x)) (codes " = ") (sign_of (operator_of o) ++ operand_text names (operand_of names y))
      ∙ (λ i. h.0 i ++ 32 ∷ (sym h.1.0 i ++ 32 ∷ (h.1.1.0 i ++ h.1.1.1.0 i)))
  unary_written [] h = absurd h
  unary_written (x ∷ []) h = absurd h.1
  unary_written (x ∷ e ∷ []) h = absurd h.1.1
  unary_written (x ∷ e ∷ o ∷ []) h = absurd h.1.1.1
  unary_written (x ∷ e ∷ o ∷ y ∷ z ∷ zs) h = absurd h.1.1.1.1

  binary_written : IsWritten names (form.Binary, variable ∷ key (codes "=") ∷ operand ∷ binary ∷ operand ∷ [])
  binary_written (x ∷ e ∷ y ∷ o ∷ z ∷ []) h =
      append_assoc (name_at names.variables (variable_of names x)) (codes " = ")
      (binary_text names (operand_of names y) (operator_of o) (operand_of names z))
      ∙ ap (λ r. name_at names.variables (variable_of names x) ++ (codes " = " ++ r))
      (five (operand_text names (operand_of names y)) (codes " ") (sign_of (operator_of o)) (codes " ") (operand_text names (operand_of names z)))
      ∙ (λ i. h.0 i ++ 32 ∷ (sym h.1.0 i ++ 32 ∷ (h.1.1.0 i ++ 32 ∷ (h.1.1.1.0 i ++ 32 ∷ h.1.1.1.1.0 i))))
  binary_written [] h = absurd h
  binary_written (x ∷ []) h = absurd h.1
  binary_written (x ∷ e ∷ []) h = absurd h.1.1
  binary_written (x ∷ e ∷ y ∷ []) h = absurd h.1.1.1
  binary_written (x ∷ e ∷ y ∷ o ∷ []) h = absurd h.1.1.1.1
  binary_written (x ∷ e ∷ y ∷ o ∷ z ∷ u ∷ us) h = absurd h.1.1.1.1.1

  jump_written : IsWritten names (form.Jump, key (codes "goto") ∷ label ∷ [])
  jump_written (k ∷ l ∷ []) h = λ i. sym h.0 i ++ 32 ∷ h.1.0 i
  jump_written [] h = absurd h
  jump_written (k ∷ []) h = absurd h.1
  jump_written (k ∷ l ∷ u ∷ us) h = absurd h.1.1

  test_written : IsWritten names (form.Test, key (codes "if") ∷ operand ∷ key (codes "goto") ∷ label ∷ [])
  test_written (k ∷ y ∷ g ∷ l ∷ []) h =
      ap (λ r. codes "if " ++ r) (append_assoc (operand_text names (operand_of names y)) (codes " ") (goto_text names (label_of names l)))
      ∙ (λ i. sym h.0 i ++ 32 ∷ (h.1.0 i ++ 32 ∷ (sym h.1.1.0 i ++ 32 ∷ h.1.1.1.0 i)))
  test_written [] h = absurd h
  test_written (k ∷ []) h = absurd h.1
  test_written (k ∷ y ∷ []) h = absurd h.1.1
  test_written (k ∷ y ∷ g ∷ []) h = absurd h.1.1.1
  test_written (k ∷ y ∷ g ∷ l ∷ u ∷ us) h = absurd h.1.1.1.1

  negated_written : IsWritten names (form.NegatedTest, key (codes "ifFalse") ∷ operand ∷ key (codes "goto") ∷ label ∷ [])
  negated_written (k ∷ y ∷ g ∷ l ∷ []) h =
      ap (λ r. codes "ifFalse " ++ r) (append_assoc (operand_text names (operand_of names y)) (codes " ") (goto_text names (label_of names l)))
      ∙ (λ i. sym h.0 i ++ 32 ∷ (h.1.0 i ++ 32 ∷ (sym h.1.1.0 i ++ 32 ∷ h.1.1.1.0 i)))
  negated_written [] h = absurd h
  negated_written (k ∷ []) h = absurd h.1
  negated_written (k ∷ y ∷ []) h = absurd h.1.1
  negated_written (k ∷ y ∷ g ∷ []) h = absurd h.1.1.1
  negated_written (k ∷ y ∷ g ∷ l ∷ u ∷ us) h = absurd h.1.1.1.1

  comparison_written : IsWritten names (form.Comparison, key (codes "if") ∷ operand ∷ comparison ∷ operand ∷ key (codes "goto") ∷ label ∷ [])
  comparison_written (k ∷ y ∷ o ∷ z ∷ g ∷ l ∷ []) h =
      ap (λ r. codes "if " ++ r)
      (append_assoc (binary_text names (operand_of names y) (operator_of o) (operand_of names z)) (codes " ") (goto_text names (label_of names l))
      ∙ five_more (operand_text names (operand_of names y)) (sign_of (operator_of o)) (operand_text names (operand_of names z))
      (goto_text names (label_of names l)))
      ∙ (λ i. sym h.0 i ++ 32 ∷ (h.1.0 i ++ 32 ∷ (h.1.1.0 i ++ 32 ∷ (h.1.1.1.0 i ++ 32 ∷ (sym h.1.1.1.1.0 i ++ 32 ∷ h.1.1.1.1.1.0 i)))))
    where
      five_more : (a o b g : List ℕ)
          → ((((a ++ codes " ") ++ o) ++ codes " ") ++ b) ++ (codes " " ++ g) ≡ a ++ (codes " " ++ (o ++ (codes " " ++ (b ++ (codes " " ++ g)))))
      five_more a o b g =
          append_assoc (((a ++ codes " ") ++ o) ++ codes " ") b (codes " " ++ g) ∙ five a (codes " ") o (codes " ") (b ++ (codes " " ++ g))
  comparison_written [] h = absurd h
  comparison_written (k ∷ []) h = absurd h.1
  comparison_written (k ∷ y ∷ []) h = absurd h.1.1
  comparison_written (k ∷ y ∷ o ∷ []) h = absurd h.1.1.1
  comparison_written (k ∷ y ∷ o ∷ z ∷ []) h = absurd h.1.1.1.1
  comparison_written (k ∷ y ∷ o ∷ z ∷ g ∷ []) h = absurd h.1.1.1.1.1
  comparison_written (k ∷ y ∷ o ∷ z ∷ g ∷ l ∷ u ∷ us) h = absurd h.1.1.1.1.1.1

  return_written : IsWritten names (form.Return, key (codes "return") ∷ [])
  return_written (k ∷ []) h = sym h.0
  return_written [] h = absurd h
  return_written (k ∷ u ∷ us) h = absurd h.1

  read_written : IsWritten names (form.Read, key (codes "read") ∷ variable ∷ [])
  read_written (k ∷ x ∷ []) h = λ i. sym h.0 i ++ 32 ∷ h.1.0 i
  read_written [] h = absurd h
  read_written (k ∷ []) h = absurd h.1
  read_written (k ∷ x ∷ u ∷ us) h = absurd h.1.1

  print_written : IsWritten names (form.Print, key (codes "print") ∷ operand ∷ [])
  print_written (k ∷ y ∷ []) h = λ i. sym h.0 i ++ 32 ∷ h.1.0 i
  print_written [] h = absurd h
  print_written (k ∷ []) h = absurd h.1
  print_written (k ∷ y ∷ u ∷ us) h = absurd h.1.1

  skip_written : IsWritten names (form.Skip, key (codes "skip") ∷ [])
  skip_written (k ∷ []) h = sym h.0
  skip_written [] h = absurd h
  skip_written (k ∷ u ∷ us) h = absurd h.1

  -- A call, by its further callees.
  abbrev is_further : List Slot → Bool
  is_further [] = true
  is_further (exactly k ∷ callee ∷ r) = bytes_eq k (codes "|") && is_further r
  is_further _ = false

  callees_written : (r : List Slot) (p : Word) (ws : List Word) → is_further r ≡ true → Resolved names (callee ∷ r) (p ∷ ws)
      → callees_text names (callee_numbers names.procedures (callee ∷ r) (p ∷ ws)) ≡ layout (callee ∷ r) (p ∷ ws)
  callees_written [] p [] f h = h.0
  callees_written [] p (w ∷ ws) f h = absurd h.1
  callees_written (exactly k ∷ callee ∷ r) p [] f h = absurd h.1
  callees_written (exactly k ∷ callee ∷ r) p (b ∷ []) f h = absurd h.1.1
  callees_written (exactly k ∷ callee ∷ r) p (b ∷ q ∷ ws) f h =
      let parts = and_parts (bytes_eq k (codes "|")) (is_further r) f in
      let bar : codes "|" ≡ spelled b = sym (h.1.0 ∙ same_text k (codes "|") (sym parts.0)) in
      append_assoc (name_at names.procedures (number_of names.procedures (bytes_of p))) (codes " | ")
      (callees_text names (callee_numbers names.procedures (callee ∷ r) (q ∷ ws)))
      ∙ (λ i. h.0 i ++ 32 ∷ (bar i ++ 32 ∷ callees_written r q ws parts.1 h.1.1 i))
  callees_written _ p ws f h = absurd (true≢false (sym f))

  call_written : (r : List Slot) → is_further r ≡ true → IsWritten names (form.Call, key (codes "call") ∷ callee ∷ r)
  call_written r f (k ∷ p ∷ ws) h = λ i. sym h.0 i ++ 32 ∷ callees_written r p ws f h.1 i
  call_written r f [] h = absurd h
  call_written r f (k ∷ []) h = absurd h.1

  calls_written : (rs : List (List Slot)) → list_all is_further rs ≡ true
      → Each (IsWritten names) (map (λ r. (form.Call, key (codes "call") ∷ callee ∷ r)) rs)
  calls_written [] h = tt
  calls_written (r ∷ rs) h = let parts = and_parts (is_further r) (list_all is_further rs) h in (call_written r parts.0, calls_written rs parts.1)

  pub all_written : Each (IsWritten names) statements
  all_written =
      each-append (IsWritten names) plain_statements (map (λ r. (form.Call, key (codes "call") ∷ callee ∷ r)) (further_callees 7)) (
        copy_written,
        (
          unary_written,
          (
            binary_written,
            (
              jump_written,
              (test_written, (negated_written, (comparison_written, (return_written, (read_written, (print_written, (skip_written, tt))))))),
            ),
          ),
        ),
      )
      (calls_written (further_callees 7) refl)
