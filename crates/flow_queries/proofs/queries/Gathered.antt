-- Bits that are gathered one after the other.
use Rattle.std.proofs.Common.{◌≡◌, ◌↔◌, ◌∙◌, ◌⊎◌, ℕ, ◌+◌, ◌*◌, ◌%◌, ◌^◌, ◌<◌, Bool, true, false, ◌&&◌, ◌||◌, nat_eq, inl, inr, refl, sym, ap, ap₂, subst, arith}
use Rattle.std.proofs.Common.{bit_and, bit_or, not, true≢false, ne_eqb, eq-eqb}
use Rattle.std.proofs.Common.{w64}
use Rattle.std.specs.Int.{bit_not}
use native.Mathlib.Decide.{ℕ_discrete}
use mathlib.Core.Logic.{dite}
use Rattle.bit_rows.proofs.words.WordBits.{has_bit-and, has_bit-not, has_bit-or, has_bit-shifted_other, has_bit-shifted_same}
use Rattle.bit_rows.specs.Words.{has_bit}

one_bit : (place k : ℕ) → place < 64 → has_bit (1 * 2 ^ place % 2 ^ 64) k ≡ nat_eq k place
one_bit place k small = dite (ℕ_discrete k place)
    (λ same.
    ap (has_bit (1 * 2 ^ place % 2 ^ 64)) same ∙ has_bit-shifted_same place small ∙ sym (eq-eqb k place same))
    (λ other. has_bit-shifted_other place k small other ∙ sym (ne_eqb k place other))

and_true : (b : Bool) → (b && true) ≡ b
and_true true = refl
and_true false = refl

and_false : (b : Bool) → (b && false) ≡ false
and_false true = refl
and_false false = refl

or_false : (b : Bool) → (b || false) ≡ b
or_false true = refl
or_false false = refl

-- one bit more, or none
pub bit_added : (word place k : ℕ) → place < 64 → has_bit (bit_or word (1 * 2 ^ place % 2 ^ 64)) k ≡ (has_bit word k || (nat_eq k place && true))
bit_added word place k small =
    has_bit-or word (1 * 2 ^ place % 2 ^ 64) k ∙ ap (λ b. has_bit word k || b) (one_bit place k small ∙ sym (and_true (nat_eq k place)))

-- one bit less
pub bit_removed : (word place k : ℕ) → place < 64 → k < 64
    → has_bit (bit_and word (bit_not w64 (1 * 2 ^ place % 2 ^ 64))) k ≡ (has_bit word k && not (nat_eq k place))
bit_removed word place k small below =
    let one : ℕ = 1 * 2 ^ place % 2 ^ 64 in
    has_bit-and word (bit_not w64 one) k
    ∙ ap (λ b. has_bit word k && b) (has_bit-not one k (omega arith) below ∙ ap not (one_bit place k small))

pub bit_not_added : (word place k : ℕ) → has_bit word k ≡ (has_bit word k || (nat_eq k place && false))
bit_not_added word place k = sym (ap (λ b. has_bit word k || b) (and_false (nat_eq k place)) ∙ or_false (has_bit word k))

or_parts : (a b : Bool) → (a || b) ≡ true → (a ≡ true) ⊎ (b ≡ true)
or_parts true b is = inl refl
or_parts false b is = inr is

or_left : (a b : Bool) → a ≡ true → (a || b) ≡ true
or_left true b is = refl
or_left false b is = absurd (true≢false (sym is))

or_right : (a b : Bool) → b ≡ true → (a || b) ≡ true
or_right true b is = refl
or_right false b is = is

-- what a word tells of the places before one, and of one more
pub gathered_more : (Has : ℕ → Type 0) (word new place : ℕ) (there : Bool)
    → ((k : ℕ) → k < 64 → has_bit new k ≡ (has_bit word k || (nat_eq k place && there)))
    → ((there ≡ true) ↔ Has place)
    → ((k : ℕ) → k < 64 → (has_bit word k ≡ true) ↔ ((k < place) × Has k))
    → (k : ℕ) → k < 64 → (has_bit new k ≡ true) ↔ ((k < place + 1) × Has k)
gathered_more Has word new place there is tells before k small =
    ((λ has. from (or_parts (has_bit word k) (nat_eq k place && there) (sym (is k small) ∙ has))), to)
  where
    from : ((has_bit word k ≡ true) ⊎ ((nat_eq k place && there) ≡ true)) → (k < place + 1) × Has k
    from (inl old) = let found = (before k small).0 old in (omega (arith, found.0), found.1)
    from (inr new_one) = dite (ℕ_discrete k place)
        (λ same.
        let set : there ≡ true = ap (λ b. b && there) (sym (eq-eqb k place same)) ∙ new_one in
        (omega (arith, same), subst Has (sym same) (tells.0 set)))
        (λ other. absurd (true≢false (sym new_one ∙ ap (λ b. b && there) (ne_eqb k place other))))

    to : (k < place + 1) × Has k → has_bit new k ≡ true
    to found = dite (ℕ_discrete k place)
        (λ same.
        let set : there ≡ true = tells.1 (subst Has same found.1) in
        is k small ∙ or_right (has_bit word k) (nat_eq k place && there) (ap₂ ◌&&◌ (eq-eqb k place same) set))
        (λ other.
        let earlier : k < place = omega (arith, found.0, other) in
        is k small ∙ or_left (has_bit word k) (nat_eq k place && there) ((before k small).1 (earlier, found.1)))
