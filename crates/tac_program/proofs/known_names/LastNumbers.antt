-- The number of a name that comes last.
use Rattle.std.proofs.Common.{◌≡◌, refl, ℕ, ◌+◌, suc, Bool, true, false, true≢false, not, ◌||◌, List, [], ◌∷◌, ◌++◌, length, arith, Some, bytes_eq}
use Rattle.std.proofs.Common.{position, cond}
use Rattle.std.proofs.lemmas.Grind.{common_steps}
use Rattle.std.proofs.lemmas.Slice.Eq.{bytes_eq-Decides}
use Rattle.std.specs.List.{list_any, prefix_len}
use Rattle.tac_program.specs.Names.{is_one_of}

none_among : (p : List ℕ → Bool) (names : List (List ℕ)) → list_any p names ≡ false → prefix_len (λ x. not (p x)) names ≡ length names
none_among p [] e = refl
none_among p (x ∷ xs) e = by_test (p x) e (none_among p xs) where
  by_test : (t : Bool) → (t || list_any p xs) ≡ false → (list_any p xs ≡ false → prefix_len (λ y. not (p y)) xs ≡ length xs)
      → cond (not t) (1 + prefix_len (λ y. not (p y)) xs) 0 ≡ suc (length xs)
  by_test true h further = absurd (true≢false h)
  by_test false h further = let e : prefix_len (λ y. not (p y)) xs ≡ length xs = further h in omega (arith, e)

-- A name that comes behind all others has their count as its number.
pub last_number : (s : List ℕ) (names : List (List ℕ)) → is_one_of s names ≡ false → position (bytes_eq s) (names ++ s ∷ []) ≡ Some (length names)
last_number s names e =
    let before = none_among (bytes_eq s) names e in
    let same : bytes_eq s s ≡ true = (bytes_eq-Decides s s).1 refl in
    grind (arith, common_steps, before, same)
