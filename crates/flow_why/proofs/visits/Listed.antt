-- What holds of each place of a list, and of each value that it contains
use Rattle.std.proofs.Common.{◌<◌, ◌≤◌, ◌+◌, inl, inr, length, get_or, ℕ, List, arith, sym, subst, Contains}
use Rattle.std.proofs.lemmas.Bool.{cases_eq}
use Rattle.std.proofs.lemmas.List.{get_or_default}
use Rattle.std.proofs.lemmas.List.Elements.{All-contains, Contains-get_or}

-- what holds of each place holds of each value
pub each_listed : {A : Type 0} (Q : A → Type 0) (list : List A) (d : A) (n : ℕ) → length list ≤ n → ((j : ℕ) → j < n → Q (get_or list j d)) → (x : A)
    → Contains list x → Q x
each_listed Q list d n whole each x there =
    All-contains Q list x (λ k e within. subst Q (get_or_default list k d e within) (each k (omega (arith, within, whole)))) there

-- what holds of the values read so far, and of the next one, holds of one more
pub read_more : {A : Type 0} (Q : A → Type 0) (list : List A) (k : ℕ) (d : A) → k < length list → ((j : ℕ) (e : A) → j < k → Q (get_or list j e))
    → Q (get_or list k d)
    → (j : ℕ) (e : A) → j < k + 1 → Q (get_or list j e)
read_more Q list k d within before here j e below = elim (cases_eq j k) [
  | inl same ↦ subst (λ n. Q (get_or list n e)) (sym same) (subst Q (get_or_default list k d e within) here)
  | inr other ↦ before j e (omega arith)
]

-- the same where what is read has a property that carries what held before over
pub listed_more : {A : Type 0} (P Old Q : A → Type 0) (list : List A) (k : ℕ) (d : A) → k < length list → ((x : A) → Contains list x → P x)
    → ((x : A) → P x → Old x → Q x)
    → ((j : ℕ) (e : A) → j < k → Old (get_or list j e)) → Q (get_or list k d) → (j : ℕ) (e : A) → j < k + 1 → Q (get_or list j e)
listed_more P Old Q list k d within is carry before here =
    read_more Q list k d within (λ j e below.
    carry (get_or list j e) (is (get_or list j e) (Contains-get_or list j e (omega (arith, below, within)))) (before j e below)) here
