-- The value of digits, as far as it counts.
use Rattle.std.proofs.Common.{◌≡◌, ℕ, suc, ◌+◌, ◌-◌, ◌*◌, ◌<◌, ◌≤◌, ◌⊎◌, inl, inr, List, [], ◌∷◌, min, sym, ap, ◌∙◌, arith, drop, length, get_or}
use Rattle.std.proofs.Common.{drop-cons, add-one}
use Rattle.std.proofs.lemmas.Bool.{cases_lt}
use Rattle.tac_lines.specs.Tokens.{value_from}

grows : (high : ℕ) (ds : List ℕ) → high ≤ value_from high ds
grows high [] = omega arith
grows high (d ∷ ds) =
    let before : 10 * high + (d - 48) ≤ value_from (10 * high + (d - 48)) ds = grows (10 * high + (d - 48)) ds in
    omega (arith, before)

pub capped : (top high : ℕ) (ds : List ℕ) → min (value_from (min high top) ds) top ≡ min (value_from high ds) top
capped top high ds = by_size (cases_lt top high) where
  by_size : (top < high) ⊎ (high ≤ top) → min (value_from (min high top) ds) top ≡ min (value_from high ds) top
  by_size (inr h) = ap (λ n. min (value_from n ds) top) (let e : min high top ≡ high = omega (arith, h) in e)
  by_size (inl h) =
      ap (λ n. min (value_from n ds) top) (let e : min high top ≡ top = omega (arith, h) in e)
      ∙ (let a : top ≤ value_from top ds = grows top ds in let b : high ≤ value_from high ds = grows high ds in
      let t : min (value_from top ds) top ≡ min (value_from high ds) top = omega (arith, a, b, h) in t)

-- one digit more
pub digit_step : (top high next : ℕ) (ds : List ℕ) (i : ℕ) → i < length ds → next ≡ min (10 * high + (get_or ds i 0 - 48)) top
    → min (value_from next (drop (i + 1) ds)) top ≡ min (value_from high (drop i ds)) top
digit_step top high next ds i h e =
    ap (λ n. min (value_from n (drop (i + 1) ds)) top) e
    ∙ capped top (10 * high + (get_or ds i 0 - 48)) (drop (i + 1) ds)
    ∙ ap (λ k. min (value_from (10 * high + (get_or ds i 0 - 48)) (drop k ds)) top) (let e : i + 1 ≡ suc i = add-one i in e)
    ∙ ap (λ xs. min (value_from high xs) top) (sym (drop-cons ds i 0 h))
