-- The turns of a way
use Rattle.std.proofs.Common.{◌≡◌, ◌∙◌, ◌⊎◌, ℕ, zero, suc, ◌+◌, ◌<◌, ◌≤◌, Bool, true, false, List, [], ◌∷◌, ◌++◌, length, get_or, map, nat_lt, take, if◌then◌else◌}
use Rattle.std.proofs.Common.{append-nil, inl, inr, refl, sym, ap, subst, arith}
use Rattle.std.specs.List.{filter}
use Rattle.std.proofs.lemmas.Bool.{cases_lt, le-ltb, lt-ltb}
use Rattle.std.proofs.lemmas.List.{length-append, length-take-le, take-append-le, take_all, take_more}
use Rattle.std.proofs.lemmas.List.Elements.{filter-append}
use Rattle.flow_why.specs.declared.hop.Hop.{Hop}
use Rattle.lint_texts.specs.LintTexts.{Turns}
use Rattle.lint_texts.specs.code.Uses.{no_turns, turns_of, ways_in}
use Rattle.lint_texts.specs.declared.ways.Way.{Way}

-- of a list with one element more as many are taken, where there is room
taken_more : (found : List Hop) (x : Hop)
    → (if nat_lt (length (take 20 found)) 20 then take 20 found ++ x ∷ [] else take 20 found) ≡ take 20 (found ++ x ∷ [])
taken_more found x = by_order (cases_lt (length found) 20) where
  by_order : (length found < 20) ⊎ (20 ≤ length found)
      → (if nat_lt (length (take 20 found)) 20 then take 20 found ++ x ∷ [] else take 20 found) ≡ take 20 (found ++ x ∷ [])
  by_order (inl fewer) =
      let whole : take 20 found ≡ found = take_all 20 found (omega (arith, fewer)) in
      let room : length (found ++ x ∷ []) ≤ 20 = omega (arith, fewer, length-append found (x ∷ [])) in
      ap (λ (xs : List Hop). if nat_lt (length xs) 20 then xs ++ x ∷ [] else xs) whole
      ∙ ap (λ b. if b then found ++ x ∷ [] else found) (lt-ltb (length found) 20 fewer)
      ∙ sym (take_all 20 (found ++ x ∷ []) room)
  by_order (inr many) =
      let full : length (take 20 found) ≡ 20 = length-take-le 20 found many in
      let none : nat_lt (length (take 20 found)) 20 ≡ false = le-ltb (length (take 20 found)) 20 (omega (arith, full)) in
      ap (λ b. if b then take 20 found ++ x ∷ [] else take 20 found) none ∙ sym (take-append-le 20 found (x ∷ []) many)

module _ (p : Hop → Bool) (hops : List Hop) (i : ℕ) (x : Hop) (below : i < length hops) (read : x ≡ get_or hops i x) where
  abbrev found : List Hop
  found = filter p (take i hops)

  passed : (b : Bool) → p x ≡ b → filter p (take (i + 1) hops) ≡ found ++ (if b then x ∷ [] else [])
  passed b is =
      ap (filter p) (take_more hops i x below) ∙ filter-append p (take i hops) (get_or hops i x ∷ [])
      ∙ ap (λ y. found ++ filter p (y ∷ [])) (sym read) ∙ ap (λ t. found ++ (if t then x ∷ [] else [])) is

  pub turn_put : (turns now : List Hop) → turns ≡ take 20 found → p x ≡ true → now ≡ (if nat_lt (length turns) 20 then turns ++ x ∷ [] else turns)
      → now ≡ take 20 (filter p (take (i + 1) hops))
  turn_put turns now are is put =
      put ∙ ap (λ (xs : List Hop). if nat_lt (length xs) 20 then xs ++ x ∷ [] else xs) are ∙ taken_more found x ∙ sym (ap (take 20) (passed true is))

  pub turn_counted : (count more : ℕ) → count ≡ length found → p x ≡ true → more ≡ count + 1 → more ≡ length (filter p (take (i + 1) hops))
  turn_counted count more counted is now =
      let one : length (found ++ x ∷ []) ≡ length found + 1 = length-append found (x ∷ []) in
      now ∙ ap (λ n. n + 1) counted ∙ sym (ap length (passed true is) ∙ one)

  pub passed_over : p x ≡ false → found ≡ filter p (take (i + 1) hops)
  passed_over is = sym (passed false is ∙ append-nil found)

-- the ways of variables by number
pub ways_before : (all : List Way) (way : Way) (v : ℕ) → v < length all → ways_in (all ++ way ∷ []) v ≡ ways_in all v
ways_before [] way v below = absurd (let none : ⊥ = omega (arith, below) in none)
ways_before (w ∷ ws) way zero below = refl
ways_before (w ∷ ws) way (suc v) below = ways_before ws way v (omega (arith, below))

pub ways_last : (all : List Way) (way : Way) → ways_in (all ++ way ∷ []) (length all) ≡ turns_of way
ways_last [] way = refl
ways_last (w ∷ ws) way = ways_last ws way

pub ways_past : (all : List Way) (v : ℕ) → length all ≤ v → ways_in all v ≡ no_turns
ways_past [] v past = refl
ways_past (w ∷ ws) zero past = absurd (let none : ⊥ = omega (arith, past) in none)
ways_past (w ∷ ws) (suc v) past = ways_past ws v (omega (arith, past))

-- what holds of each of their variables holds with one way more
pub each_way : (P : ℕ → Turns → Type 0) (all now : List Way) (way : Way) (count : ℕ) → length all ≡ count → now ≡ all ++ way ∷ []
    → ((v : ℕ) → v < count → P v (ways_in all v)) → P count (turns_of way) → (v : ℕ) → v < count + 1 → P v (ways_in now v)
each_way P all now way count counted put before here v below =
    subst (λ (ws : List Way). P v (ways_in ws v)) (sym put) (by_order (cases_lt v count)) where
      by_order : (v < count) ⊎ (count ≤ v) → P v (ways_in (all ++ way ∷ []) v)
      by_order (inl less) = subst (P v) (sym (ways_before all way v (omega (arith, less, counted)))) (before v less)
      by_order (inr not_less) =
          let same : count ≡ v = omega (arith, below, not_less) in
          let at : turns_of way ≡ ways_in (all ++ way ∷ []) v = sym (ways_last all way) ∙ ap (ways_in (all ++ way ∷ [])) (counted ∙ same) in
          subst (P v) at (subst (λ n. P n (turns_of way)) same here)
