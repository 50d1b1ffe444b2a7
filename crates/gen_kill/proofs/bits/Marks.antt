-- Places of a word, one after the other
use Rattle.std.proofs.Common.{◌≡◌, ◌+◌, ◌<◌, ◌≤◌, ◌&&◌, ◌||◌, ℕ, Bool, true, false, nat_eq, nat_lt, inl, inr, ap, sym, ◌∙◌, arith, eq-eqb, ne_eqb}
use Rattle.std.proofs.lemmas.Bool.{cases_eq}

-- no place
pub none_below : (k : ℕ) (test : Bool) → (nat_lt k 0 && test) ≡ false
none_below k true = grind arith
none_below k false = grind arith

-- one place more
pub places_below : (k place : ℕ) (test : Bool) → ((nat_lt k place && test) || (nat_eq k place && test)) ≡ (nat_lt k (place + 1) && test)
places_below k place true = grind arith
places_below k place false = grind arith

-- all places of a word
pub place_behind : (k place most : ℕ) (test : Bool) → k < most → most ≤ place → (nat_lt k place && test) ≡ test
place_behind k place most true below behind = grind arith
place_behind k place most false below behind = grind arith

-- the mark of a place that passes a test, and no mark where it does not
pub marked_where : (test : ℕ → Bool) (place k : ℕ) → test place ≡ true → nat_eq k place ≡ (nat_eq k place && test k)
marked_where test place k passes = elim (cases_eq k place) [
  | inl same ↦ eq-eqb k place same ∙ sym (ap (λ t. t && test k) (eq-eqb k place same) ∙ ap test same ∙ passes)
  | inr other ↦ ne_eqb k place other ∙ sym (ap (λ t. t && test k) (ne_eqb k place other))
]

pub unmarked_where : (test : ℕ → Bool) (place k : ℕ) → test place ≡ false → false ≡ (nat_eq k place && test k)
unmarked_where test place k fails = elim (cases_eq k place) [
  | inl same ↦ sym (ap (λ t. t && test k) (eq-eqb k place same) ∙ ap test same ∙ fails)
  | inr other ↦ sym (ap (λ t. t && test k) (ne_eqb k place other))
]
