-- Forms in which all names are variables: their variables are their names.
use Rattle.std.proofs.Common.{◌≡◌, ℕ, Bool, true, false, ◌||◌, List, [], ◌∷◌, ◌++◌, refl, sym, ap, ◌∙◌, Some, None, true≢false, flat_map}
use Rattle.std.proofs.Common.{if◌then◌else◌}
use Rattle.std.specs.List.{list_any}
use Rattle.std.proofs.lemmas.Bool.{and_parts, or_parts}
use Rattle.tac_lines.specs.Tokens.{Word, name, number, fixed, Token}
use Rattle.tac_program.specs.Spelling.{binary_signs, unary_signs, comparison_signs}
use Rattle.tac_lines.specs.Forms.{Slot, exactly, procedure, variable, operand, label, callee, binary, unary, comparison, fills, has_form, is_fixed_in}
use Rattle.tac_lines.specs.Forms.{is_name_word, statement_row, statements, paired, in_slot, is_variable}
use Rattle.tac_reader.specs.Sections.{only_name, variables_of}
use Rattle.tac_lines.specs.code.Formed.{has_only_variables}
use Rattle.tac_lines.specs.code.Views.{form_slots}
use Rattle.tac_lines.specs.declared.form.Form.{Form}
use Rattle.tac_lines.specs.declared.form.Form.TheVariants as form
use Rattle.tac_lines.proofs.forms.RowLengths.{found_row}

-- Whether a name there stands for something else.
abbrev is_other : Slot → Bool
is_other procedure = true
is_other label = true
is_other callee = true
is_other _ = false

no_other : (f : Form) (n : ℕ) → has_only_variables f ≡ true → list_any is_other (form_slots f n) ≡ false
no_other form.Copy n h = refl
no_other form.Unary n h = refl
no_other form.Binary n h = refl
no_other form.Jump n h = absurd (true≢false (sym h))
no_other form.Test n h = absurd (true≢false (sym h))
no_other form.NegatedTest n h = absurd (true≢false (sym h))
no_other form.Comparison n h = absurd (true≢false (sym h))
no_other form.Call n h = absurd (true≢false (sym h))
no_other form.Return n h = refl
no_other form.Read n h = refl
no_other form.Print n h = refl
no_other form.Skip n h = refl

no_name : (those : List (List ℕ)) (w : Word) → is_fixed_in those w ≡ true → is_name_word w ≡ false
no_name those (name s) h = absurd (true≢false (sym h))
no_name those (number n) h = refl
no_name those (fixed s) h = refl

module _ (t : Token) (these all : List Token) (same : these ≡ all) where
  skipped : (those : List (List ℕ)) → is_fixed_in those t.word ≡ true → these ≡ only_name t ++ all
  skipped those h = same ∙ ap (λ b. (if b then t ∷ [] else []) ++ all) (sym (no_name those t.word h))

  taken : only_name t ++ these ≡ only_name t ++ all
  taken = ap (λ ts. only_name t ++ ts) same

names_are : (slots : List Slot) (ts : List Token) → list_any is_other slots ≡ false → has_form slots ts ≡ true
    → flat_map only_name (in_slot is_variable (paired slots ts)) ≡ flat_map only_name ts
names_are [] [] a h = refl
names_are [] (t ∷ ts) a h = absurd (true≢false (sym h))
names_are (s ∷ slots) [] a h = absurd (true≢false (sym h))
names_are (s ∷ slots) (t ∷ ts) a h =
    let parts = and_parts (fills s t.word) (has_form slots ts) h in
    one s a parts.0 (names_are slots ts (or_parts (is_other s) (list_any is_other slots) a).1 parts.1)
  where
    one : (r : Slot) → (is_other r || list_any is_other slots) ≡ false → fills r t.word ≡ true
        → flat_map only_name (in_slot is_variable (paired slots ts)) ≡ flat_map only_name ts → flat_map only_name (if is_variable r then t
        ∷ in_slot is_variable (paired slots ts) else in_slot is_variable (paired slots ts)) ≡ only_name t ++ flat_map only_name ts
    one (exactly w) b f others = skipped t _ _ others (w ∷ []) f
    one procedure b f others = absurd (true≢false b)
    one variable b f others = taken t _ _ others
    one operand b f others = taken t _ _ others
    one label b f others = absurd (true≢false b)
    one callee b f others = absurd (true≢false b)
    one binary b f others = skipped t _ _ others binary_signs f
    one unary b f others = skipped t _ _ others unary_signs f
    one comparison b f others = skipped t _ _ others comparison_signs f

pub variables_are : (f : Form) (n : ℕ) (ts : List Token) → statement_row ts ≡ Some (f, form_slots f n) → has_only_variables f ≡ true
    → flat_map only_name ts ≡ variables_of ts
variables_are f n ts e h =
    sym (names_are (form_slots f n) ts (no_other f n h) (found_row ts statements (f, form_slots f n) e))
    ∙ ap (λ o. flat_map only_name (in_slot is_variable (elim o as (λ _. List (Slot × Token)) [ None ↦ [] | Some row ↦ paired row.1 ts ]))) (sym e)
