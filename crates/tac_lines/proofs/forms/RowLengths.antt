-- How many tokens a row of the table has.
use Rattle.std.proofs.Common.{◌≡◌, suc, Bool, true, false, List, [], ◌∷◌, length, refl, sym, ap, ◌∙◌, Option, Some, true≢false, find, cond}
use Rattle.std.proofs.lemmas.Bool.{and_parts}
use Rattle.std.proofs.lemmas.Option.{same_Some}
use Rattle.tac_lines.specs.Tokens.{Token}
use Rattle.tac_lines.specs.Forms.{Slot, fills, has_form, statements, statement_row}
use Rattle.tac_lines.specs.declared.form.Form.{Form}

pub form_length : (slots : List Slot) (ts : List Token) → has_form slots ts ≡ true → length ts ≡ length slots
form_length [] [] h = refl
form_length [] (t ∷ ts) h = absurd (true≢false (sym h))
form_length (s ∷ ss) [] h = absurd (true≢false (sym h))
form_length (s ∷ ss) (t ∷ ts) h = ap suc (form_length ss ts (and_parts (fills s t.word) (has_form ss ts) h).1)

-- The row that is found has the tokens.
pub found_row : (ts : List Token) (rows : List (Form × List Slot)) (row : Form × List Slot) → find (λ r. has_form r.1 ts) rows ≡ Some row
    → has_form row.1 ts ≡ true
found_row ts [] row e = absurd (cc e)
found_row ts (r ∷ rs) row e = go (has_form r.1 ts) refl e (λ k. found_row ts rs row k) where
  go : (b : Bool) → has_form r.1 ts ≡ b → cond (has_form r.1 ts) (let o : Option (Form × List Slot) = Some r in o) (find (λ q. has_form q.1 ts) rs)
      ≡ Some row → (find (λ q. has_form q.1 ts) rs ≡ Some row → has_form row.1 ts ≡ true) → has_form row.1 ts ≡ true
  go true f k later = ap (λ q. has_form q.1 ts)
      (sym (same_Some r row (sym (ap (λ b. cond b (let o : Option (Form × List Slot) = Some r in o) (find (λ q. has_form q.1 ts) rs)) f) ∙ k))) ∙ f
  go false f k later = later (sym (ap (λ b. cond b (let o : Option (Form × List Slot) = Some r in o) (find (λ q. has_form q.1 ts) rs)) f) ∙ k)

pub row_length : (ts : List Token) (row : Form × List Slot) → statement_row ts ≡ Some row → length ts ≡ length row.1
row_length ts row e = form_length row.1 ts (found_row ts statements row e)
