-- Numbers in a row that pass a test
use Rattle.std.proofs.Common.{◌≡◌, ℕ, suc, ◌+◌, ◌-◌, ◌<◌, Bool, true, false, cond, ap, ◌∙◌, arith}
use Rattle.std.specs.List.{prefix_len, range_with_len}

-- how many from a number on and below a bound
abbrev pub run : (ℕ → Bool) → ℕ → ℕ → ℕ
run test bound from = prefix_len test (range_with_len from (bound - from))

module _ (test : ℕ → Bool) (bound from : ℕ) (below : from < bound) where
  run_by : (b : Bool) → test from ≡ b → run test bound from ≡ cond b (1 + run test bound (from + 1)) 0
  run_by b is =
      let more : bound - from ≡ suc (bound - (from + 1)) = omega (arith, below) in
      ap (λ n. prefix_len test (range_with_len from n)) more ∙ ap (λ c. cond c (1 + run test bound (from + 1)) 0) is

  pub run_more : test from ≡ true → run test bound from ≡ 1 + run test bound (from + 1)
  run_more is = run_by true is

  pub run_ends : test from ≡ false → run test bound from ≡ 0
  run_ends is = run_by false is
