-- Where the longest piece at the front of a text ends.
use Rattle.std.proofs.Common.{◌≡◌, ℕ, zero, suc, ◌+◌, ◌<◌, ◌≤◌, ◌⊎◌, inl, inr, Bool, true, false, cond, not, ◌&&◌, ◌||◌, List, [], ◌∷◌, take, length}
use Rattle.std.proofs.Common.{refl, sym, ap, ◌∙◌, subst, arith, Option, Some, None, codes, eqb, bytes_eq, get_or, true≢false, eq-or-lt_of_le, ◌==◌}
use Rattle.std.proofs.Common.{one-add, drop, ◌-◌, take_all}
use Rattle.std.proofs.lemmas.Bool.{eqb-true, and_parts, not-true}
use Rattle.std.proofs.lemmas.List.Sums.{prefix_len-le-length}
use Rattle.std.specs.List.{list_all, list_any, prefix_len}
use Rattle.tac_lines.specs.Tokens.{Piece, piece_of, picked, name_or_keyword, longest_of, longest, is_number, signs, is_blank, is_comment}
use Rattle.tac_program.specs.Spelling.{is_letter, is_digit, is_name_byte, is_name}
use Rattle.tac_program.specs.Names.{is_one_of}

-- The step of the search, in words.
step_some : (n : ℕ) (s : List ℕ) (p : Piece) → piece_of (take (suc n) s) ≡ Some p → longest_of (suc n) s ≡ Some (suc n, p)
step_some n s p e = ap (λ o. elim o as (λ _. Option (ℕ × Piece)) [ Some q ↦ Some (suc n, q) | None ↦ longest_of n s ]) e

step_none : (n : ℕ) (s : List ℕ) → piece_of (take (suc n) s) ≡ None → longest_of (suc n) s ≡ longest_of n s
step_none n s e = ap (λ o. elim o as (λ _. Option (ℕ × Piece)) [ Some q ↦ Some (suc n, q) | None ↦ longest_of n s ]) e

-- It is the longest where it is a piece and no longer front is one.
pub longest_is : (m n : ℕ) (s : List ℕ) (p : Piece) → n < m → piece_of (take (suc n) s) ≡ Some p
    → ((k : ℕ) → suc n < k → k ≤ m → piece_of (take k s) ≡ None) → longest_of m s ≡ Some (suc n, p)
longest_is zero n s p below piece none = absurd (let never : ⊥ = omega (arith, below) in never)
longest_is (suc m) n s p below piece none =
    let cases : (n ≡ m) ⊎ (n < m) = eq-or-lt_of_le (omega (arith, below)) in
    elim cases [
      | inl e ↦ step_some m s p (subst (λ k. piece_of (take (suc k) s) ≡ Some p) e piece)
          ∙ ap (λ k. let o : Option (ℕ × Piece) = Some (suc k, p) in o) (sym e)
      | inr l ↦ step_none m s (none (suc m) (omega (arith, l)) (omega arith))
          ∙ longest_is m n s p l piece (λ k low high. none k low (omega (arith, high)))
    ]

pub longest_none : (m : ℕ) (s : List ℕ) → ((k : ℕ) → 0 < k → k ≤ m → piece_of (take k s) ≡ None) → longest_of m s ≡ None
longest_none zero s none = refl
longest_none (suc m) s none =
    step_none m s (none (suc m) (omega arith) (omega arith)) ∙ longest_none m s (λ k low high. none k low (omega (arith, high)))

-- What a byte at the front rules out.
abbrev pub first_fails : (ℕ → Bool) → List ℕ → Bool
first_fails test [] = true
first_fails test (c ∷ cs) = not (test c)

pub differs : (test : ℕ → Bool) (b c : ℕ) → test b ≡ true → test c ≡ false → eqb b c ≡ false
differs test b c holds fails = differs_at (eqb b c) refl where
  differs_at : (e : Bool) → eqb b c ≡ e → e ≡ false
  differs_at true same = absurd (true≢false (sym holds ∙ ap test (eqb-true b c same) ∙ fails))
  differs_at false same = refl

pub not_in : (test : ℕ → Bool) (b : ℕ) (t : List ℕ) (ts : List (List ℕ)) → list_all (first_fails test) ts ≡ true → test b ≡ true
    → list_any (bytes_eq (b ∷ t)) ts ≡ false
not_in test b t [] h holds = refl
not_in test b t ([] ∷ ts) h holds = not_in test b t ts h holds
not_in test b t ((c ∷ cs) ∷ ts) h holds =
    let parts = and_parts (not (test c)) (list_all (first_fails test) ts) h in
    rw (differs test b c holds (not-true (test c) parts.0)) (not_in test b t ts parts.1 holds)

pub piece_of-picked : (s : List ℕ) (a b c d : Bool) → is_name s ≡ a → is_number s ≡ b → is_one_of s signs ≡ c → (is_blank s || is_comment s) ≡ d
    → piece_of s ≡ picked a b c d s
piece_of-picked s a b c d ea eb ec ed = λ i. picked (ea i) (eb i) (ec i) (ed i) s

pub letter_no_digit : (b : ℕ) → is_letter b ≡ true → is_digit b ≡ false
letter_no_digit b h = grind (arith, h)

-- Behind a letter there is a name or nothing.
pub piece_of-letter : (b : ℕ) (t : List ℕ) → is_letter b ≡ true → piece_of (b ∷ t) ≡ picked (list_all is_name_byte t) false false false (b ∷ t)
piece_of-letter b t h =
    let named : is_name (b ∷ t) ≡ list_all is_name_byte t = ap (λ x. x && list_all is_name_byte t) h in
    let numbered : is_number (b ∷ t) ≡ false = ap (λ x. x && list_all is_digit t) (letter_no_digit b h) in
    let signed : is_one_of (b ∷ t) signs ≡ false = not_in is_letter b t signs refl h in
    let blank : is_blank (b ∷ t) ≡ false = not_in is_letter b t (codes " " ∷ codes "\t" ∷ codes "\n" ∷ codes "\r\n" ∷ []) refl h in
    let comment : is_comment (b ∷ t) ≡ false = ap (λ x. x && list_all (λ c. not (c == 10)) t) (differs is_letter b 35 h refl) in
    piece_of-picked (b ∷ t) (list_all is_name_byte t) false false false named numbered signed (λ i. blank i || comment i)

-- A run of bytes that pass a test.
list_all-run : (p : ℕ → Bool) (bs : List ℕ) → list_all p (take (prefix_len p bs) bs) ≡ true
list_all-run p [] = refl
list_all-run p (b ∷ bs) = by_test (p b) refl (list_all-run p bs) where
  by_test : (e : Bool) → p b ≡ e → list_all p (take (prefix_len p bs) bs) ≡ true
      → list_all p (take (cond (p b) (1 + prefix_len p bs) 0) (b ∷ bs)) ≡ true
  by_test true h before = rw (h, one-add) (rw h before)
  by_test false h before = rw h refl

list_all-past : (p : ℕ → Bool) (bs : List ℕ) (j : ℕ) → prefix_len p bs < j → j ≤ length bs → list_all p (take j bs) ≡ false
list_all-past p [] j low high = absurd (let never : ⊥ = omega (arith, low, high) in never)
list_all-past p (b ∷ bs) zero low high = absurd (let never : ⊥ = omega (arith, low) in never)
list_all-past p (b ∷ bs) (suc j) low high = by_test (p b) refl low (list_all-past p bs j) where
  by_test : (e : Bool) → p b ≡ e → cond (p b) (1 + prefix_len p bs) 0 < suc j → (prefix_len p bs < j → j ≤ length bs → list_all p (take j bs) ≡ false)
      → (p b && list_all p (take j bs)) ≡ false
  by_test true h l before = rw h (before (let l2 : 1 + prefix_len p bs < suc j = rw h at l in omega (arith, l2)) (omega (arith, high)))
  by_test false h l before = rw h refl

pub run_longest : (p : ℕ → Bool) (made : List ℕ → Piece) (b : ℕ) (bs : List ℕ) → ((t : List ℕ) → piece_of (b ∷ t)
    ≡ cond (list_all p t) (Some (made (b ∷ t))) None) → longest (b ∷ bs) ≡ Some (suc (prefix_len p bs), made (b ∷ take (prefix_len p bs) bs))
run_longest p made b bs pieces =
    longest_is (suc (length bs)) (prefix_len p bs) (b ∷ bs) (made (b ∷ take (prefix_len p bs) bs))
    (let l : prefix_len p bs ≤ length bs = prefix_len-le-length p bs in omega (arith, l))
    (pieces (take (prefix_len p bs) bs)
    ∙ ap (λ x. cond x (let o : Option Piece = Some (made (b ∷ take (prefix_len p bs) bs)) in o) None) (list_all-run p bs))
    past where
      past : (k : ℕ) → suc (prefix_len p bs) < k → k ≤ suc (length bs) → piece_of (take k (b ∷ bs)) ≡ None
      past zero low high = absurd (let never : ⊥ = omega (arith, low) in never)
      past (suc j) low high = pieces (take j bs) ∙ ap (λ x. cond x (let o : Option Piece = Some (made (b ∷ take j bs)) in o) None)
          (list_all-past p bs j (omega (arith, low)) (omega (arith, high)))

pub letter_longest : (b : ℕ) (bs : List ℕ) → is_letter b ≡ true
    → longest (b ∷ bs) ≡ Some (suc (prefix_len is_name_byte bs), name_or_keyword (b ∷ take (prefix_len is_name_byte bs) bs))
letter_longest b bs h = run_longest is_name_byte name_or_keyword b bs (λ t. piece_of-letter b t h)

pub name_front : (s : List ℕ) (n : ℕ) → 0 < length s → is_letter (get_or s 0 0) ≡ true → n ≡ prefix_len is_name_byte (take (length s - 1) (drop 1 s))
    → longest s ≡ Some (1 + n, name_or_keyword (take (1 + n) s))
name_front [] n some h e = absurd (let never : ⊥ = omega (arith, some) in never)
name_front (b ∷ bs) n some h e =
    let whole : take (length (b ∷ bs) - 1) bs ≡ bs = take_all (length (b ∷ bs) - 1) bs (omega arith) in
    let e2 : n ≡ prefix_len is_name_byte bs = e ∙ ap (prefix_len is_name_byte) whole in
    letter_longest b bs h ∙ ap (λ k. let o : Option (ℕ × Piece) = Some (suc k, name_or_keyword (b ∷ take k bs)) in o) (sym e2) ∙ rw one-add refl
