-- Names that are meant by others.
use Rattle.std.specs.Prelude.{ℕ, Bool, false, ◌&&◌, ◌||◌, ◌==◌, List, [], ◌∷◌, map, bytes_eq, if◌then◌else◌}
use Rattle.std.specs.Char.{to_ascii_lowercase}

-- The first two bytes are swapped, and the others are the same.
abbrev pub is_swapped : List ℕ → List ℕ → Bool
is_swapped (a ∷ b ∷ xs) (c ∷ d ∷ ys) = (a == d && b == c) && bytes_eq xs ys
is_swapped _ _ = false

-- One slip between words that begin differently: one byte more or fewer, another byte, or two neighbours swapped.
abbrev pub is_slip : List ℕ → List ℕ → Bool
is_slip [] [] = false
is_slip [] (y ∷ ys) = bytes_eq [] ys
is_slip (x ∷ xs) [] = bytes_eq xs []
is_slip (x ∷ xs) (y ∷ ys) = bytes_eq xs (y ∷ ys) || bytes_eq (x ∷ xs) ys || bytes_eq xs ys || is_swapped (x ∷ xs) (y ∷ ys)

-- One slip between words, behind what they begin with alike.
abbrev pub is_near : List ℕ → List ℕ → Bool
is_near (x ∷ xs) (y ∷ ys) = if x == y then is_near xs ys else is_slip (x ∷ xs) (y ∷ ys)
is_near xs ys = is_slip xs ys

-- The same letters, but for capitals.
abbrev pub is_same_but_for_capitals : List ℕ → List ℕ → Bool
is_same_but_for_capitals s t = bytes_eq (map to_ascii_lowercase s) (map to_ascii_lowercase t)
