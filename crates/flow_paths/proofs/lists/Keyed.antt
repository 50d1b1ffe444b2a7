-- Elements of a list by the places of their keys
use Rattle.std.proofs.Common.{◌≡◌, ◌∙◌, ℕ, ◌+◌, ◌<◌, ◌≤◌, List, length, map, get_or, slice_index, sym, subst, arith}
use Rattle.std.proofs.lemmas.List.{get_or-map, length-map}
use Rattle.worklist.specs.Groups.{AreGroups}

module _ {A : Type 0} (xs : List A) (key : A → ℕ) (none : A) (count : ℕ) (starts places : List ℕ) where
  -- what stands at a place of a key is a number of what has that key
  pub keyed_at : (k place : ℕ) → AreGroups (map key xs) count starts places → k < count → slice_index starts k ≤ place
      → place < slice_index starts (k + 1)
      → (slice_index places place < length xs) × (key (get_or xs (slice_index places place) none) ≡ k)
  keyed_at k place groups below low high =
      let only = groups.only k place below (record { low = low; high = high }) in
      let within : slice_index places place < length xs = omega (arith, only.0, length-map xs key) in
      (within, sym (get_or-map key xs (slice_index places place) none 0 within) ∙ only.1)

  -- each number is at one of the places of its key
  pub places_of_each : (number : ℕ) → AreGroups (map key xs) count starts places → number < length xs
      → (j : ℕ) × (slice_index starts (key (get_or xs number none)) ≤ j) × (j < slice_index starts (key (get_or xs number none) + 1))
      × (slice_index places j ≡ number)
  places_of_each number groups below =
      let at = groups.listed number (omega (arith, below, length-map xs key)) in
      let is : slice_index (map key xs) number ≡ key (get_or xs number none) = get_or-map key xs number none 0 below in
      let low : slice_index starts (key (get_or xs number none)) ≤ at.0 = subst (λ (k : ℕ). slice_index starts k ≤ at.0) is at.1.low in
      let high : at.0 < slice_index starts (key (get_or xs number none) + 1) = subst (λ (k : ℕ). at.0 < slice_index starts (k + 1)) is at.1.high in
      (at.0, low, high, at.2)
