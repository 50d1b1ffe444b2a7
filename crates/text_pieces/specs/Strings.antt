-- What stands between quotes, in both texts.
use Rattle.std.specs.Prelude.{ℕ, List, [], ◌∷◌, ◌++◌, flat_map, ◌==◌, ◌||◌, if◌then◌else◌, codes}

-- a quote and a backslash have a backslash before them
abbrev pub escaped_byte : ℕ → List ℕ
escaped_byte b = if b == 34 || b == 92 then 92 ∷ b ∷ [] else b ∷ []

abbrev pub escaped : List ℕ → List ℕ
escaped text = flat_map escaped_byte text

abbrev pub quoted : List ℕ → List ℕ
quoted text = codes "\"" ++ escaped text ++ codes "\""
