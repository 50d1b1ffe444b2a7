-- Statements without faults of form.
use Rattle.std.proofs.Common.{◌≡◌, ℕ, Bool, true, false, ◌&&◌, ◌||◌, List, [], ◌∷◌, ◌++◌, map, flat_map, refl, sym, ap, ◌∙◌, Option, Some, None}
use Rattle.std.proofs.Common.{is_some, find, append_assoc, true≢false, if◌then◌else◌}
use Rattle.std.proofs.lemmas.Bool.{or_right, and_parts}
use Rattle.tac_lines.specs.Tokens.{Token, stop_of}
use Rattle.tac_lines.specs.Forms.{Slot, statements, statement_forms, statement_row, fills, begins, has_form, end_form, labels_of, behind_labels}
use Rattle.tac_lines.specs.Forms.{forms_for, some_begins, some_form, first_wrong}
use Rattle.tac_lines.specs.LineFaults.{at, word_fault, row_faults, first_by_place}
use Rattle.tac_lines.specs.declared.fault.Fault.{Fault}
use Rattle.tac_lines.specs.declared.form.Form.{Form}
use Rattle.tac_lines.specs.declared.refusal.RefusalKind.TheVariants as kind
use Rattle.tac_lines.proofs.forms.LineForms.{judge}

-- Where all the tokens are a form, each front of them begins one.
form_begins : (f : List Slot) (xs ys : List Token) → has_form f (xs ++ ys) ≡ true → begins f xs ≡ true
form_begins [] [] ys h = refl
form_begins (s ∷ ss) [] ys h = refl
form_begins [] (x ∷ xs) ys h = absurd (true≢false (sym h))
form_begins (s ∷ ss) (x ∷ xs) ys h =
    let parts = and_parts (fills s x.word) (has_form ss (xs ++ ys)) h in
    λ i. parts.0 i && form_begins ss xs ys parts.1 i

some_begun : (fs : List (List Slot)) (xs ys : List Token) → some_form fs (xs ++ ys) ≡ true → some_begins fs xs ≡ true
some_begun [] xs ys h = absurd (true≢false (sym h))
some_begun (f ∷ fs) xs ys h = go (has_form f (xs ++ ys)) refl (some_begun fs xs ys) where
  go : (b : Bool) → has_form f (xs ++ ys) ≡ b → (some_form fs (xs ++ ys) ≡ true → some_begins fs xs ≡ true)
      → (begins f xs || some_begins fs xs) ≡ true
  go true e later = ap (λ b. b || some_begins fs xs) (form_begins f xs ys e)
  go false e later = or_right (begins f xs) (some_begins fs xs) (later (sym (ap (λ b. b || some_form fs (xs ++ ys)) e) ∙ h))

none_wrong : (fs : List (List Slot)) (before ts : List Token) → some_form fs (before ++ ts) ≡ true → first_wrong fs before ts ≡ None
none_wrong fs before [] h = refl
none_wrong fs before (t ∷ ts) h =
    let whole : some_form fs ((before ++ t ∷ []) ++ ts) ≡ true = ap (some_form fs) (append_assoc before (t ∷ []) ts) ∙ h in
    ap (λ b. elim b as (λ _. Option Token) [ true ↦ first_wrong fs (before ++ t ∷ []) ts | false ↦ Some t ])
    (some_begun fs (before ++ t ∷ []) ts whole) ∙ none_wrong fs (before ++ t ∷ []) ts whole

pub fine_judge : (fs : List (List Slot)) (ts : List Token) (cut : Bool) (stop : ℕ) → some_form fs ts ≡ true → judge fs ts cut stop ≡ []
fine_judge fs ts cut stop h =
    ap (λ o. elim o as (λ _. List Fault) [ Some t ↦ at kind.Syntax t.start | None ↦ (if some_form fs ts || cut then [] else at kind.Syntax stop) ])
    (none_wrong fs [] ts h)
    ∙ ap (λ b. if b || cut then [] else at kind.Syntax stop) h

-- A row of the table that is found is one of its forms.
found_form : (table : List (Form × List Slot)) (ts : List Token) → is_some (find (λ row. has_form row.1 ts) table) ≡ true
    → some_form (map (λ row. row.1) table) ts ≡ true
found_form [] ts h = absurd (true≢false (sym h))
found_form (row ∷ table) ts h = go (has_form row.1 ts) refl (found_form table ts) where
  go : (b : Bool) → has_form row.1 ts ≡ b → (is_some (find (λ r. has_form r.1 ts) table) ≡ true → some_form (map (λ r. r.1) table) ts ≡ true)
      → (has_form row.1 ts || some_form (map (λ r. r.1) table) ts) ≡ true
  go true e later = ap (λ b. b || some_form (map (λ r. r.1) table) ts) e
  go false e later = or_right (has_form row.1 ts) (some_form (map (λ r. r.1) table) ts)
      (later (sym (ap (λ b. is_some (if b then Some row else find (λ r. has_form r.1 ts) table)) e) ∙ h))

statement_form : (labels ts : List Token) → is_some (statement_row ts) ≡ true → some_form (forms_for true labels) ts ≡ true
statement_form [] ts h = or_right (has_form [] ts) (has_form end_form ts || some_form statement_forms ts)
    (or_right (has_form end_form ts) (some_form statement_forms ts) (found_form statements ts h))
statement_form (t ∷ labels) ts h = or_right (has_form [] ts) (some_form statement_forms ts) (found_form statements ts h)

-- A line inside a procedure whose statement is whole, and whose words have no fault, has none.
pub fine_statement : (inside : Bool) (bad : Option ℕ) (ts : List Token) → inside ≡ true → is_some bad ≡ false
    → is_some (statement_row (behind_labels ts)) ≡ true → flat_map word_fault ts ≡ []
    → first_by_place (row_faults inside (record { tokens = ts; bad = bad })) ≡ None
fine_statement false bad ts i b h words = absurd (true≢false (sym i))
fine_statement true (Some place) ts i b h words = absurd (true≢false b)
fine_statement true None ts i b h words =
    ap first_by_place (λ j. words j
    ++ fine_judge (forms_for true (labels_of ts)) (behind_labels ts) false (stop_of ts) (statement_form (labels_of ts) (behind_labels ts) h) j)
