-- No statement lists more than eight procedures.
use Rattle.std.proofs.Common.{◌≡◌, ℕ, ◌+◌, ◌≤◌, Bool, true, false, cond, ◌&&◌, List, [], ◌∷◌, length, refl, arith, if◌then◌else◌, Option, Some, None}
use Rattle.std.proofs.Common.{find, nat_le}
use Rattle.std.proofs.lemmas.Bool.{and_parts, leb-true}
use Rattle.tac_lines.specs.Tokens.{Token}
use Rattle.tac_lines.specs.Forms.{Slot, statements, has_form, paired, in_slot, is_callee, callees_of}
use Rattle.tac_lines.specs.declared.form.Form.{Form}

-- How many callees a form has.
callee_places : List Slot → ℕ
callee_places [] = 0
callee_places (s ∷ slots) = cond (is_callee s) (1 + callee_places slots) (callee_places slots)

one_more : (b : Bool) (t : Token) (ts : List Token) (n : ℕ) → length ts ≤ n → length (if b then t ∷ ts else ts) ≤ cond b (1 + n) n
one_more true t ts n h = omega arith
one_more false t ts n h = h

places_filled : (slots : List Slot) (ts : List Token) → length (in_slot is_callee (paired slots ts)) ≤ callee_places slots
unfolding callee_places
places_filled [] ts = omega arith
places_filled (s ∷ slots) [] = omega arith
places_filled (s ∷ slots) (t ∷ ts) = one_more (is_callee s) t (in_slot is_callee (paired slots ts)) (callee_places slots) (places_filled slots ts)

-- Whether each form of a table has at most n callees.
few_callees : ℕ → List (Form × List Slot) → Bool
few_callees n [] = true
few_callees n (row ∷ rows) = nat_le (callee_places row.1) n && few_callees n rows

abbrev pub row_cells : List Token → Option (Form × List Slot) → List (Slot × Token)
row_cells ts found = elim found [ None ↦ [] | Some row ↦ paired row.1 ts ]

picked : (b : Bool) (ts : List Token) (row : Form × List Slot) (others : Option (Form × List Slot)) (n : ℕ)
    → length (in_slot is_callee (paired row.1 ts)) ≤ n → length (in_slot is_callee (row_cells ts others)) ≤ n
    → length (in_slot is_callee (row_cells ts (cond b (Some row) others))) ≤ n
picked true ts row others n h k = h
picked false ts row others n h k = k

found_few : (rows : List (Form × List Slot)) (ts : List Token) (n : ℕ) → few_callees n rows ≡ true
    → length (in_slot is_callee (row_cells ts (find (λ row. has_form row.1 ts) rows))) ≤ n
unfolding few_callees
found_few [] ts n h = omega arith
found_few (row ∷ rows) ts n h =
    let parts = and_parts (nat_le (callee_places row.1) n) (few_callees n rows) h in
    let places : length (in_slot is_callee (paired row.1 ts)) ≤ callee_places row.1 = places_filled row.1 ts in
    let bound : callee_places row.1 ≤ n = leb-true (callee_places row.1) n parts.0 in
    picked (has_form row.1 ts) ts row (find (λ row. has_form row.1 ts) rows) n (omega arith) (found_few rows ts n parts.1)

table_few : few_callees 8 statements ≡ true
unfolding few_callees callee_places
table_few = refl

pub most_callees : (ts : List Token) → length (callees_of ts) ≤ 8
most_callees ts = found_few statements ts 8 table_few
