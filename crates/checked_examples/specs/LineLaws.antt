-- What holds of each line of a set, and of all its lines together.
use Rattle.std.specs.Prelude.{◌≡◌, ℕ, ◌<◌, ◌≤◌, List, [], ◌∷◌, ◌++◌, All, Contains, drop, flat_map, codes, ◌⊎◌}
use Rattle.flow_texts.specs.Tables.{listed}
use Rattle.point_sets.specs.SetLines.{columns, set_lines, width}

-- A line on which one name stands alone, behind what the first line or any other begins with, and perhaps before a comma.
pub record IsAlone (head : List ℕ) (names : List (List ℕ)) (line : List ℕ) : Type 0 where
  pub start : List ℕ
  pub name : List ℕ
  pub end : List ℕ
  pub starts : (start ≡ head) ⊎ (start ≡ codes "  ")
  pub named : Contains names name
  pub ends : (end ≡ []) ⊎ (end ≡ codes ",")
  pub is_line : line ≡ start ++ name ++ end

-- It is so of each line of a set that is too long.
abbrev pub LinesFit : Type 0
LinesFit = (head : List ℕ) (names : List (List ℕ)) → width head < columns
    → All (λ line. (width line ≤ columns) ⊎ IsAlone head names line) (set_lines head names)

-- lines that are put together again: a blank stands for the two that each line but the first begins with
abbrev pub rejoined : List (List ℕ) → List ℕ
rejoined [] = []
rejoined (first ∷ others) = first ++ flat_map (λ line. codes " " ++ drop 2 line) others

-- They are the set's text.
abbrev pub LinesAreTheSet : Type 0
LinesAreTheSet = (head : List ℕ) (names : List (List ℕ)) → rejoined (set_lines head names) ≡ head ++ listed names
