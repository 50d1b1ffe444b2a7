-- Bits that lie side by side in a set.
use Rattle.std.specs.Prelude.{◌≡◌, ℕ, ◌<◌, ◌≤◌, Bool, true, false}

-- The numbers from the first on and before the end are members, and those from there up to a place are none.
pub record IsRunBefore (member : ℕ → Bool) (place first end : ℕ) : Type 0 where
  pub ordered : first ≤ end
  pub before : end ≤ place
  pub inside : (n : ℕ) → first ≤ n → n < end → member n ≡ true
  pub behind : (n : ℕ) → end ≤ n → n < place → member n ≡ false
