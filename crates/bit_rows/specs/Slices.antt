-- What a contract sees of a `Cut`: where each slice of the universe ends.
use Rattle.std.specs.Prelude.{◌≡◌, ℕ, ◌+◌, ◌*◌, ◌<◌, min, List, [], ◌∷◌, ◌++◌, length, slice_index, if◌then◌else◌, ◌==◌}

-- how many bits there are, and the end of each slice in order
pub record Slices : Type 0 where
  pub bits : ℕ
  pub ends : List ℕ

-- where slice s begins: where the one before it ends
abbrev pub start_of : Slices → ℕ → ℕ
start_of c s = slice_index (0 ∷ c.ends) s

-- where slice s ends: one more than its last bit
abbrev pub end_of : Slices → ℕ → ℕ
end_of c s = slice_index c.ends s

-- no slice is empty, and together they are 0..bits
pub record CoverBits (c : Slices) : Type 0 where
  pub rising : (s : ℕ) → s < length c.ends → start_of c s < end_of c s
  pub whole : start_of c (length c.ends) ≡ c.bits

-- slices of 0..bits, each of width bits but for the last, which may be shorter
pub record IsEvenCut (c : Slices) (bits width : ℕ) : Type 0 where
  pub universe : c.bits ≡ bits
  pub cover : CoverBits c
  pub starts : (s : ℕ) → s < length c.ends → start_of c s ≡ s * width
  pub ends : (s : ℕ) → s < length c.ends → end_of c s ≡ min ((s + 1) * width) bits

-- places at which 0..bits may be cut: they rise, and each lies between two bits
pub record ArePlaces (bits : ℕ) (places : List ℕ) : Type 0 where
  pub rising : (j k : ℕ) → j < k → k < length places → slice_index places j < slice_index places k
  pub positive : (k : ℕ) → k < length places → 0 < slice_index places k
  pub below : (k : ℕ) → k < length places → slice_index places k < bits

-- the slices that end at the places, and where there are bits one more that ends with them
abbrev pub cut_at : ℕ → List ℕ → Slices
cut_at bits places =
    record { bits = bits; ends = places ++ (if bits == 0 then [] else bits ∷ []) }
