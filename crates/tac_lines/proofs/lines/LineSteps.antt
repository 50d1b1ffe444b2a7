-- A text's lines, one after another.
use Rattle.std.proofs.Common.{◌≡◌, ℕ, suc, ◌+◌, ◌-◌, ◌<◌, ◌≤◌, Bool, true, false, not, cond, List, [], ◌∷◌, length, take, drop, refl, sym, ap}
use Rattle.std.proofs.Common.{◌∙◌, arith, slice_range, length-drop, drop-drop, take_all, one-add, if◌then◌else◌}
use Rattle.std.specs.List.{prefix_len, onto_first}
use Rattle.std.proofs.lemmas.List.{take_rest, drop_all}
use Rattle.tac_lines.specs.Text.{lines, is_line_end, no_line_end}

run_line : (bs : List ℕ) → prefix_len no_line_end bs < length bs
    → lines bs ≡ take (suc (prefix_len no_line_end bs)) bs ∷ lines (drop (suc (prefix_len no_line_end bs)) bs)
run_line [] h = absurd (let never : ⊥ = omega (arith, h) in never)
run_line (b ∷ bs) h = by_test (is_line_end b) refl h (λ below. run_line bs below) where
  by_test : (t : Bool) → is_line_end b ≡ t → cond (not (is_line_end b)) (1 + prefix_len no_line_end bs) 0 < suc (length bs)
      → (prefix_len no_line_end bs < length bs
      → lines bs ≡ take (suc (prefix_len no_line_end bs)) bs ∷ lines (drop (suc (prefix_len no_line_end bs)) bs))
      → (if is_line_end b then (b ∷ []) ∷ lines bs else onto_first b (lines bs))
      ≡ take (suc (cond (not (is_line_end b)) (1 + prefix_len no_line_end bs) 0)) (b ∷ bs)
      ∷ lines (drop (suc (cond (not (is_line_end b)) (1 + prefix_len no_line_end bs) 0)) (b ∷ bs))
  by_test true e l later = rw e refl
  by_test false e l later =
      rw (e, one-add) (ap (onto_first b) (later (let k : 1 + prefix_len no_line_end bs < suc (length bs) = rw e at l in omega (arith, k))))

all_line : (bs : List ℕ) → 0 < length bs → length bs ≤ prefix_len no_line_end bs → lines bs ≡ bs ∷ []
all_line [] some h = absurd (let never : ⊥ = omega (arith, some) in never)
all_line (b ∷ bs) some h = by_test (is_line_end b) refl h (λ below. rest bs (λ more l. all_line bs more l) below) where
  by_test : (t : Bool) → is_line_end b ≡ t → suc (length bs) ≤ cond (not (is_line_end b)) (1 + prefix_len no_line_end bs) 0
      → (length bs ≤ prefix_len no_line_end bs → onto_first b (lines bs) ≡ (b ∷ bs) ∷ [])
      → (if is_line_end b then (b ∷ []) ∷ lines bs else onto_first b (lines bs)) ≡ (b ∷ bs) ∷ []
  by_test true e l later = absurd (let k : suc (length bs) ≤ 0 = rw e at l in let never : ⊥ = omega (arith, k) in never)
  by_test false e l later = rw e (later (let k : suc (length bs) ≤ 1 + prefix_len no_line_end bs = rw e at l in omega (arith, k)))

  rest : (cs : List ℕ) → (0 < length cs → length cs ≤ prefix_len no_line_end cs → lines cs ≡ cs ∷ []) → length cs ≤ prefix_len no_line_end cs
      → onto_first b (lines cs) ≡ (b ∷ cs) ∷ []
  rest [] later l = refl
  rest (c ∷ cs) later l = ap (onto_first b) (later (omega arith) l)

module _ (text : List ℕ) (start n : ℕ) (run : n ≡ prefix_len no_line_end (take (length text - start) (drop start text))) where
  run_is : n ≡ prefix_len no_line_end (drop start text)
  run_is = run ∙ ap (prefix_len no_line_end) (take_rest text start)

  pub line_ended : start < length text → start + n < length text
      → lines (drop start text) ≡ slice_range text start (start + n + 1) ∷ lines (drop (start + n + 1) text)
  line_ended some h =
      let size : length (drop start text) ≡ length text - start = length-drop start text in
      let below : prefix_len no_line_end (drop start text) < length (drop start text) = omega (arith, size, h, run_is) in
      run_line (drop start text) below
      ∙ (λ i. take (suc (sym run_is i)) (drop start text) ∷ lines (drop (suc (sym run_is i)) (drop start text)))
      ∙ (λ i. take (let e : suc n ≡ (start + n + 1) - start = omega arith in e i) (drop start text) ∷ lines (drop-drop (suc n) start text i))
      ∙ ap (λ k. slice_range text start (start + n + 1) ∷ lines (drop k text)) (let e : start + suc n ≡ start + n + 1 = omega arith in e)

  pub line_last : start < length text → length text ≤ start + n
      → lines (drop start text) ≡ slice_range text start (start + n) ∷ lines (drop (start + n) text)
  line_last some h =
      let size : length (drop start text) ≡ length text - start = length-drop start text in
      all_line (drop start text) (omega (arith, size, some)) (omega (arith, size, h, run_is))
      ∙ (λ i. sym (take_all ((start + n) - start) (drop start text) (omega (arith, size, h))) i ∷ [])
      ∙ ap (λ r. slice_range text start (start + n) ∷ r) (sym (ap lines (drop_all (start + n) text h)))
