-- Texts in a row, some of which stand already.
use Rattle.std.specs.Prelude.{◌≡◌, ℕ, ◌<◌, Bool, true, false, List, [], ◌∷◌, ◌++◌, flat_map, length, slice_index_or}

-- the texts with something between them, and before the first too where others stand already
abbrev pub after : List ℕ → Bool → List (List ℕ) → List ℕ
after between true texts = flat_map (λ text. between ++ text) texts
after between false [] = []
after between false (first ∷ others) = first ++ after between true others

-- whether there are any
abbrev pub some_stand : {A : Type 0} → List A → Bool
some_stand [] = false
some_stand (x ∷ xs) = true

-- the text of a number among some texts
abbrev pub text_at : List (List ℕ) → ℕ → List ℕ
text_at texts n = slice_index_or texts n []

-- one text for each of the numbers below a count
pub record AreTexts (named : ℕ → List ℕ) (count : ℕ) (texts : List (List ℕ)) : Type 0 where
  pub same_count : length texts ≡ count
  pub each : (n : ℕ) → n < count → text_at texts n ≡ named n
