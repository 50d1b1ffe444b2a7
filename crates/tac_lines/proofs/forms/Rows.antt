-- The one row of the table of statements that given words have.
use Rattle.std.proofs.Common.{◌≡◌, ℕ, zero, suc, ◌<◌, Bool, true, false, cond, ◌||◌, List, [], ◌∷◌, map, find, length, refl, sym, ap, ◌∙◌, subst}
use Rattle.std.proofs.Common.{arith, Some, None, codes, true≢false, ◌-◌, AllPairs, ◌⊎◌, inl, inr, slice_index_or}
use Rattle.std.specs.List.{list_any}
use Rattle.tac_lines.specs.Tokens.{Token}
use Rattle.tac_lines.specs.Forms.{Slot, key, callee, has_form, further_callees, statements, statement_forms, statement_row}
use Rattle.tac_lines.specs.code.Views.{GoesAsFar, form_slots, further_slots, is_whole}
use Rattle.tac_lines.specs.LineLaws.{NoWordsInBoth}
use Rattle.tac_lines.specs.declared.form.Form.{Form}
use Rattle.tac_lines.specs.declared.form.Form.TheVariants as form
use Rattle.tac_lines.specs.declared.form.Walk.{Walk}
use Rattle.tac_lines.specs.declared.form.Walk.TheVariants.{Wrong, Unfinished, Whole}
use Rattle.tac_lines.proofs.forms.Apart.{statements_are_apart}

abbrev In : {X : Type 0} → X → List X → Type 0
In r [] = ⊥
In r (x ∷ xs) = (r ≡ x) ⊎ In r xs

in_map : {X Y : Type 0} (f : X → Y) (x : X) (xs : List X) → In x xs → In (f x) (map f xs)
in_map f x [] h = h
in_map f x (y ∷ ys) (inl e) = inl (ap f e)
in_map f x (y ∷ ys) (inr h) = inr (in_map f x ys h)

no_more_in : (n : ℕ) → In [] (further_callees n)
no_more_in zero = inl refl
no_more_in (suc n) = inl refl

further_in : (n k : ℕ) → In (further_slots n k) (further_callees n)
further_in zero k = inl refl
further_in (suc n) zero = inl refl
further_in (suc n) (suc zero) = inr (in_map (λ r. key (codes "|") ∷ r) (callee ∷ []) (map (λ r. callee ∷ r) (further_callees n))
    (in_map (λ r. callee ∷ r) [] (further_callees n) (no_more_in n)))
further_in (suc n) (suc (suc k)) = inr (in_map (λ r. key (codes "|") ∷ r) (callee ∷ further_slots n k) (map (λ r. callee ∷ r) (further_callees n))
    (in_map (λ r. callee ∷ r) (further_slots n k) (further_callees n) (further_in n k)))

call_in : (n : ℕ) → In (let r : Form × List Slot = (form.Call, form_slots form.Call n) in r)
    (map (λ r. let x : Form × List Slot = (form.Call, key (codes "call") ∷ callee ∷ r) in x) (further_callees 7))
call_in n = in_map (λ r. let x : Form × List Slot = (form.Call, key (codes "call") ∷ callee ∷ r) in x) (further_slots 7 (n - 2)) (further_callees 7)
    (further_in 7 (n - 2))

abbrev row : Form → ℕ → Form × List Slot
row f n = (f, form_slots f n)

-- the places of each form are a row of the table
form_in : (f : Form) (n : ℕ) → In (row f n) statements
form_in form.Copy n = inl refl
form_in form.Unary n = inr (inl refl)
form_in form.Binary n = inr (inr (inl refl))
form_in form.Jump n = inr (inr (inr (inl refl)))
form_in form.Test n = inr (inr (inr (inr (inl refl))))
form_in form.NegatedTest n = inr (inr (inr (inr (inr (inl refl)))))
form_in form.Comparison n = inr (inr (inr (inr (inr (inr (inl refl))))))
form_in form.Return n = inr (inr (inr (inr (inr (inr (inr (inl refl)))))))
form_in form.Read n = inr (inr (inr (inr (inr (inr (inr (inr (inl refl))))))))
form_in form.Print n = inr (inr (inr (inr (inr (inr (inr (inr (inr (inl refl)))))))))
form_in form.Skip n = inr (inr (inr (inr (inr (inr (inr (inr (inr (inr (inl refl))))))))))
form_in form.Call n = inr (inr (inr (inr (inr (inr (inr (inr (inr (inr (inr (call_in n)))))))))))

apart_from : (x r : Form × List Slot) (xs : List (Form × List Slot)) → ((k : ℕ) → k < length xs → NoWordsInBoth x (slice_index_or xs k x)) → In r xs
    → NoWordsInBoth x r
apart_from x r [] each h = absurd h
apart_from x r (y ∷ ys) each (inl e) = subst (NoWordsInBoth x) (sym e) (each 0 (omega arith))
apart_from x r (y ∷ ys) each (inr h) = apart_from x r ys (λ k below. each (suc k) (omega (arith, below))) h

found : (ts : List Token) (r : Form × List Slot) (rows : List (Form × List Slot)) → In r rows → AllPairs NoWordsInBoth rows → has_form r.1 ts ≡ true
    → find (λ row. has_form row.1 ts) rows ≡ Some r
found ts r [] h apart holds = absurd h
found ts r (x ∷ xs) (inl e) apart holds =
    ap (λ b. cond b (Some x) (find (λ row. has_form row.1 ts) xs)) (ap (λ y. has_form y.1 ts) (sym e) ∙ holds) ∙ ap Some (sym e)
found ts r (x ∷ xs) (inr h) apart holds =
    by_test (has_form x.1 ts) refl
    (found ts r xs h (λ i j d below within. apart (suc i) (suc j) d (omega (arith, below)) (omega (arith, within))) holds)
  where
    by_test : (b : Bool) → has_form x.1 ts ≡ b → find (λ row. has_form row.1 ts) xs ≡ Some r
        → cond b (Some x) (find (λ row. has_form row.1 ts) xs) ≡ Some r
    by_test true e behind = absurd (apart_from x r xs (λ k below. apart 0 (suc k) x (omega arith) (omega (arith, below))) h ts e holds)
    by_test false e behind = behind

none_found : (ts : List Token) (rows : List (Form × List Slot)) → list_any (λ f. has_form f ts) (map (λ row. row.1) rows) ≡ false
    → find (λ row. has_form row.1 ts) rows ≡ None
none_found ts [] h = refl
none_found ts (x ∷ xs) h = by_test (has_form x.1 ts) h (none_found ts xs) where
  by_test : (b : Bool) → (b || list_any (λ f. has_form f ts) (map (λ row. row.1) xs)) ≡ false → (list_any (λ f. has_form f ts) (map (λ row. row.1) xs)
      ≡ false → find (λ row. has_form row.1 ts) xs ≡ None) → cond b (Some x) (find (λ row. has_form row.1 ts) xs) ≡ None
  by_test true e behind = absurd (true≢false e)
  by_test false e behind = behind e

pub row_some : (f : Form) (n : ℕ) (slots : List Slot) (ts : List Token) → slots ≡ form_slots f n → has_form slots ts ≡ true
    → statement_row ts ≡ Some (f, form_slots f n)
row_some f n slots ts e h = found ts (row f n) statements (form_in f n) statements_are_apart (ap (λ r. has_form r ts) (sym e) ∙ h)

pub row_none : (f : Form) (n : ℕ) (slots : List Slot) (ts : List Token) → slots ≡ form_slots f n → GoesAsFar statement_forms (form_slots f n ∷ []) ts
    → has_form slots ts ≡ false → statement_row ts ≡ None
row_none f n slots ts e far h = none_found ts statements (far.whole ∙ ap (λ b. b || false) (ap (λ r. has_form r ts) (sym e) ∙ h))

pub not_whole : (w : Walk) → (w ≡ Whole → ⊥) → is_whole w ≡ false
not_whole (Wrong place) h = refl
not_whole Unfinished h = refl
not_whole Whole h = absurd (h refl)
