-- A call judges its tokens by one row: that of as many callees as the tokens could name.
use Rattle.std.proofs.Common.{◌≡◌, ℕ, zero, suc, Bool, true, false, List, [], ◌∷◌, map, refl, ap, ◌∙◌, codes, if◌then◌else◌, length, take, min, ◌+◌}
use Rattle.std.proofs.Common.{◌*◌, ◌%◌, arith}
use Rattle.tac_lines.specs.Tokens.{Token}
use Rattle.tac_lines.specs.code.Views.{GoesAsFar, further_slots}
use Rattle.tac_lines.specs.Forms.{Slot, fills, key, callee, further_callees, some_begins, some_form, first_wrong}
use Rattle.tac_lines.proofs.forms.Table.{behind, step, same_behind}

-- Rows that all begin with one slot.
abbrev pub led : Slot → List (List Slot) → List (List Slot)
led s fs = map (λ r. s ∷ r) fs

behind_led : (s : Slot) (t : Token) (fs : List (List Slot)) → behind t (led s fs) ≡ (if fills s t.word then fs else [])
behind_led s t [] = no_rows (fills s t.word) where
  no_rows : (a : Bool) → [] ≡ (let r : List (List Slot) = [] in if a then r else [])
  no_rows true = refl
  no_rows false = refl
behind_led s t (q ∷ fs) = ap (λ r. if fills s t.word then q ∷ r else r) (behind_led s t fs) ∙ choose (fills s t.word) where
  choose : (a : Bool) → (if a then q ∷ (if a then fs else []) else (if a then fs else [])) ≡ (if a then q ∷ fs else [])
  choose true = refl
  choose false = refl

pub led_far : (s : Slot) (fs : List (List Slot)) (r : List Slot) (t : Token) (ts : List Token) → some_begins fs [] ≡ true → GoesAsFar fs (r ∷ []) ts
    → GoesAsFar (led s fs) ((s ∷ r) ∷ []) (t ∷ ts)
led_far s fs r t ts live same =
    step (led s fs) ((s ∷ r) ∷ []) t ts
    (ap (λ x. some_begins x []) (behind_led s t fs) ∙ lives (fills s t.word))
    (record {
      wrong = ap (λ x. first_wrong x [] ts) (behind_led s t fs) ∙ (far (fills s t.word)).wrong;
      whole = ap (λ x. some_form x ts) (behind_led s t fs) ∙ (far (fills s t.word)).whole;
    }) where
      lives : (a : Bool) → some_begins (if a then fs else []) [] ≡ some_begins (if a then r ∷ [] else []) []
      lives true = live
      lives false = refl

      far : (a : Bool) → GoesAsFar (if a then fs else []) (if a then r ∷ [] else []) ts
      far true = same
      far false = record { wrong = refl; whole = refl }

pub led_whole : (s : Slot) (fs : List (List Slot)) → some_form (led s fs) [] ≡ false
led_whole s [] = refl
led_whole s (f ∷ fs) = led_whole s fs

led_live : (s : Slot) (n : ℕ) → some_begins (led s (further_callees n)) [] ≡ true
led_live s zero = refl
led_live s (suc n) = refl

pub further_live : (n : ℕ) → some_begins (further_callees n) [] ≡ true
further_live zero = refl
further_live (suc n) = refl

-- The one row that goes as far as any.
abbrev pub callee_row : ℕ → List Token → List Slot
callee_row zero ts = []
callee_row (suc n) [] = []
callee_row (suc n) (t ∷ []) = key (codes "|") ∷ callee ∷ []
callee_row (suc n) (t ∷ u ∷ ts) = key (codes "|") ∷ callee ∷ callee_row n ts

pub callee_far : (n : ℕ) (ts : List Token) → GoesAsFar (further_callees n) (callee_row n ts ∷ []) ts
callee_far zero ts = record { wrong = refl; whole = refl }
callee_far (suc n) [] = record { wrong = refl; whole = refl }
callee_far (suc n) (t ∷ []) =
    let rows = led callee (further_callees n) in
    let there = led_far (key (codes "|")) rows (callee ∷ []) t [] (led_live callee n)
    (record { wrong = refl; whole = led_whole callee (further_callees n) }) in
    let skip = same_behind (further_callees (suc n)) (led (key (codes "|")) rows) t [] refl in
    record { wrong = skip.wrong ∙ there.wrong; whole = skip.whole ∙ there.whole }
callee_far (suc n) (t ∷ u ∷ ts) =
    let rows = led callee (further_callees n) in
    let inner = led_far callee (further_callees n) (callee_row n ts) u ts (further_live n) (callee_far n ts) in
    let there = led_far (key (codes "|")) rows (callee ∷ callee_row n ts) t (u ∷ ts) (led_live callee n) inner in
    let skip = same_behind (further_callees (suc n)) (led (key (codes "|")) rows) t (u ∷ ts) refl in
    record { wrong = skip.wrong ∙ there.wrong; whole = skip.whole ∙ there.whole }

-- The same row by the number of the tokens.
pub row_further : (n : ℕ) (ts : List Token) → callee_row n ts ≡ further_slots n (length ts)
row_further zero ts = refl
row_further (suc n) [] = refl
row_further (suc n) (t ∷ []) = refl
row_further (suc n) (t ∷ u ∷ ts) = ap (λ r. key (codes "|") ∷ callee ∷ r) (row_further n ts)

-- It is a front of the row of n callees.
abbrev pub bars : ℕ → List Slot
bars zero = []
bars (suc n) = key (codes "|") ∷ callee ∷ bars n

pub further_front : (n k : ℕ) → further_slots n k ≡ take (min k (2 * n) + min k (2 * n) % 2) (bars n)
further_front zero k = ap (λ m. take m []) (let e : 0 ≡ min k (2 * 0) + min k (2 * 0) % 2 = omega arith in e)
further_front (suc n) zero = ap (λ m. take m (bars (suc n))) (let e : 0 ≡ min 0 (2 * suc n) + min 0 (2 * suc n) % 2 = omega arith in e)
further_front (suc n) (suc zero) = ap (λ m. take m (bars (suc n))) (let e : 2 ≡ min 1 (2 * suc n) + min 1 (2 * suc n) % 2 = omega arith in e)
further_front (suc n) (suc (suc k)) =
    ap (λ r. key (codes "|") ∷ callee ∷ r) (further_front n k)
    ∙ ap (λ m. take m (bars (suc n)))
    (let e : suc (suc (min k (2 * n) + min k (2 * n) % 2)) ≡ min (suc (suc k)) (2 * suc n) + min (suc (suc k)) (2 * suc n) % 2 = omega arith in e)
