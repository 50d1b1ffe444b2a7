-- How words come to tell what statements do.
use Rattle.std.specs.Prelude.{◌≡◌, ◌⊎◌, ◌<◌, ℕ, Bool, true, List, length, slice_index}
use Rattle.bit_rows.specs.Words.{has_bit}
use Rattle.flow_graph.specs.Points.{point_count}
use Rattle.gen_kill.specs.Selections.{Selection, column_gens, column_kills}
use Rattle.flow_regions.specs.declared.effects.Does.{Does}
use Rattle.flow_regions.specs.declared.effects.Does.TheVariants.{Generates, Kills}

-- whether the statement at a point generates a column's bit, or kills it
abbrev pub has_effect : Selection → Does → ℕ → ℕ → Bool
has_effect selection Generates = column_gens selection
has_effect selection Kills = column_kills selection

-- the bit of one of the first points was put
pub record IsPut (selection : Selection) (does : Does) (column : ℕ) (listed : List ℕ) (until : ℕ) (places : List ℕ) (place : ℕ) : Type 0 where
  pub number : ℕ
  pub low : number < until
  pub there : slice_index places (slice_index listed number) ≡ place
  pub has : has_effect selection does (slice_index listed number) column ≡ true

-- Bits of a column were put for the first points of a list: none other, and of each that does it.
pub record ArePut (selection : Selection) (does : Does) (column bit : ℕ) (listed : List ℕ) (until : ℕ) (places old new : List ℕ) : Type 0 where
  pub kept : (y b : ℕ) → b < 64 → has_bit (slice_index old y) b ≡ true → has_bit (slice_index new y) b ≡ true
  pub only : (y b : ℕ) → b < 64 → has_bit (slice_index new y) b ≡ true
      → (has_bit (slice_index old y) b ≡ true) ⊎ ((b ≡ bit) × IsPut selection does column listed until places y)
  pub here : (j : ℕ) → j < until → slice_index places (slice_index listed j) < length old
      → has_effect selection does (slice_index listed j) column ≡ true → has_bit (slice_index new (slice_index places (slice_index listed j))) bit ≡ true

-- some point with this place does it with the column
pub record IsToldOf (selection : Selection) (does : Does) (column : ℕ) (places : List ℕ) (place : ℕ) : Type 0 where
  pub point : ℕ
  pub there : point < point_count selection.program
  pub at : slice_index places point ≡ place
  pub has : has_effect selection does point column ≡ true

-- Of the first columns words have the bits of the points that do it, if these have a place, and no others.
pub record AreTold (selection : Selection) (does : Does) (columns : List ℕ) (until : ℕ) (places : List ℕ) (count : ℕ) (words : List ℕ) : Type 0 where
  pub complete : (x k : ℕ) → x < point_count selection.program → slice_index places x < count → k < until
      → has_effect selection does x (slice_index columns k) ≡ true → has_bit (slice_index words (slice_index places x)) k ≡ true
  pub sound : (y k : ℕ) → k < 64 → has_bit (slice_index words y) k ≡ true → (k < until) × IsToldOf selection does (slice_index columns k) places y
