-- The longest piece behind a digit, a number sign, and any other byte that begins no name.
use Rattle.std.proofs.Common.{◌≡◌, ℕ, zero, suc, ◌+◌, ◌-◌, ◌<◌, ◌≤◌, Bool, true, false, cond, not, ◌&&◌, ◌||◌, List, [], ◌∷◌, take, drop, length}
use Rattle.std.proofs.Common.{refl, sym, ap, ◌∙◌, arith, Option, Some, None, codes, eqb, nat_lt, bytes_eq, get_or, ◌==◌, slice_get, length-take-le}
use Rattle.std.proofs.Common.{take_all, one-add}
use Rattle.std.specs.Cmp.Lexicographic.{same_text}
use Rattle.std.proofs.lemmas.Bool.{ltb-true, and_parts}
use Rattle.std.specs.List.{list_all, list_any, prefix_len}
use Rattle.std.proofs.Math.Bool.{or-false}
use Rattle.tac_lines.specs.Text.{no_line_end}
use Rattle.tac_lines.specs.Tokens.{Piece, gap, piece_of, picked, number_piece, longest, signs, is_blank, is_comment}
use Rattle.tac_program.specs.Spelling.{is_letter, is_digit, is_name_byte}
use Rattle.tac_program.specs.Names.{is_one_of}
use Rattle.tac_lines.proofs.tokens.Longest.{longest_is, longest_none, run_longest, piece_of-picked, not_in, differs}

digit_no_letter : (b : ℕ) → is_digit b ≡ true → is_letter b ≡ false
digit_no_letter b h = grind (arith, h)

piece_of-digit : (b : ℕ) (t : List ℕ) → is_digit b ≡ true → piece_of (b ∷ t) ≡ cond (list_all is_digit t) (Some (number_piece (b ∷ t))) None
piece_of-digit b t h =
    piece_of-picked (b ∷ t) false (list_all is_digit t) false false
    (ap (λ x. x && list_all is_name_byte t) (digit_no_letter b h))
    (ap (λ x. x && list_all is_digit t) h)
    (not_in is_digit b t signs refl h)
    (let blank : is_blank (b ∷ t) ≡ false = not_in is_digit b t (codes " " ∷ codes "\t" ∷ codes "\n" ∷ codes "\r\n" ∷ []) refl h in
    let comment : is_comment (b ∷ t) ≡ false = ap (λ x. x && list_all (λ c. not (c == 10)) t) (differs is_digit b 35 h refl) in
    λ i. blank i || comment i)

pub digit_longest : (b : ℕ) (bs : List ℕ) → is_digit b ≡ true
    → longest (b ∷ bs) ≡ Some (suc (prefix_len is_digit bs), number_piece (b ∷ take (prefix_len is_digit bs) bs))
digit_longest b bs h = run_longest is_digit number_piece b bs (λ t. piece_of-digit b t h)

piece_of-comment : (t : List ℕ) → piece_of (35 ∷ t) ≡ cond (list_all no_line_end t) (Some gap) None
piece_of-comment t = refl

pub comment_longest : (bs : List ℕ) → longest (35 ∷ bs) ≡ Some (suc (prefix_len no_line_end bs), gap)
comment_longest bs = run_longest no_line_end (λ s. gap) 35 bs piece_of-comment

-- Any other byte: at most two bytes.
not_long : (n : ℕ) (s : List ℕ) (ts : List (List ℕ)) → list_all (λ t. nat_lt (length t) n) ts ≡ true → n ≤ length s → list_any (bytes_eq s) ts ≡ false
not_long n s [] short long = refl
not_long n s (t ∷ ts) short long =
    rest (bytes_eq s t) refl (not_long n s ts (and_parts (nat_lt (length t) n) (list_all (λ u. nat_lt (length u) n) ts) short).1 long) where
      rest : (e : Bool) → bytes_eq s t ≡ e → list_any (bytes_eq s) ts ≡ false → (bytes_eq s t || list_any (bytes_eq s) ts) ≡ false
      rest true h others =
          absurd
          (let below : length t < n = ltb-true (length t) n (and_parts (nat_lt (length t) n) (list_all (λ u. nat_lt (length u) n) ts) short).0 in
          let same : length s ≡ length t = ap length (same_text s t (sym h)) in let never : ⊥ = omega (arith, below, same, long) in never)
      rest false h others = ap (λ x. x || list_any (bytes_eq s) ts) h ∙ others

module _ (b : ℕ) (letter : is_letter b ≡ false) (digit : is_digit b ≡ false) (hash : eqb b 35 ≡ false) where
  pub piece_of-other : (t : List ℕ) → piece_of (b ∷ t) ≡ picked false false (is_one_of (b ∷ t) signs) (is_blank (b ∷ t)) (b ∷ t)
  piece_of-other t = piece_of-picked (b ∷ t) false false (is_one_of (b ∷ t) signs) (is_blank (b ∷ t))
      (ap (λ x. x && list_all is_name_byte t) letter)
      (ap (λ x. x && list_all is_digit t) digit)
      refl
      (ap (λ x. is_blank (b ∷ t) || (x && list_all (λ c. not (c == 10)) t)) hash ∙ or-false (is_blank (b ∷ t)))

  long_none : (t : List ℕ) → 2 ≤ length t → piece_of (b ∷ t) ≡ None
  long_none t long = piece_of-other t ∙ (λ i. picked false false (not_long 3 (b ∷ t) signs refl (omega (arith, long)) i)
      (not_long 3 (b ∷ t) (codes " " ∷ codes "\t" ∷ codes "\n" ∷ codes "\r\n" ∷ []) refl (omega (arith, long)) i) (b ∷ t))

  long_front : (s : List ℕ) (k : ℕ) → 2 < k → k ≤ suc (length s) → piece_of (take k (b ∷ s)) ≡ None
  long_front s zero low high = absurd (let never : ⊥ = omega (arith, low) in never)
  long_front s (suc j) low high =
      long_none (take j s) (let size : length (take j s) ≡ j = length-take-le j s (omega (arith, high)) in omega (arith, size, low))

  pub two_longest : (c : ℕ) (s : List ℕ) (p : Piece) → piece_of (b ∷ c ∷ []) ≡ Some p → longest (b ∷ c ∷ s) ≡ Some (2, p)
  two_longest c s p e = longest_is (suc (suc (length s))) 1 (b ∷ c ∷ s) p (omega arith) e (long_front (c ∷ s))

  -- where no two bytes are a piece
  later_none : (s : List ℕ) → ((c : ℕ) → slice_get s 0 ≡ Some c → piece_of (b ∷ c ∷ []) ≡ None) → (k : ℕ) → 1 < k → k ≤ suc (length s)
      → piece_of (take k (b ∷ s)) ≡ None
  later_none s none zero low high = absurd (let never : ⊥ = omega (arith, low) in never)
  later_none s none (suc zero) low high = absurd (let never : ⊥ = omega (arith, low) in never)
  later_none [] none (suc (suc zero)) low high = absurd (let never : ⊥ = omega (arith, high) in never)
  later_none (c ∷ cs) none (suc (suc zero)) low high = none c refl
  later_none s none (suc (suc (suc k))) low high = long_front s (suc (suc (suc k))) (omega arith) high

  pub one_longest : (s : List ℕ) (p : Piece) → ((c : ℕ) → slice_get s 0 ≡ Some c → piece_of (b ∷ c ∷ []) ≡ None) → piece_of (b ∷ []) ≡ Some p
      → longest (b ∷ s) ≡ Some (1, p)
  one_longest s p none e = longest_is (suc (length s)) 0 (b ∷ s) p (omega arith) e (later_none s none)

  pub none_longest : (s : List ℕ) → ((c : ℕ) → slice_get s 0 ≡ Some c → piece_of (b ∷ c ∷ []) ≡ None) → piece_of (b ∷ []) ≡ None
      → longest (b ∷ s) ≡ None
  none_longest s none e = longest_none (suc (length s)) (b ∷ s) below where
    below : (k : ℕ) → 0 < k → k ≤ suc (length s) → piece_of (take k (b ∷ s)) ≡ None
    below zero low high = absurd (let never : ⊥ = omega (arith, low) in never)
    below (suc zero) low high = e
    below (suc (suc k)) low high = later_none s none (suc (suc k)) (omega arith) high

-- What a run's length says of the whole.
pub number_front : (s : List ℕ) (n : ℕ) → 0 < length s → is_digit (get_or s 0 0) ≡ true → n ≡ prefix_len is_digit (take (length s - 1) (drop 1 s))
    → longest s ≡ Some (1 + n, number_piece (take (1 + n) s))
number_front [] n some h e = absurd (let never : ⊥ = omega (arith, some) in never)
number_front (b ∷ bs) n some h e =
    let whole : take (length (b ∷ bs) - 1) bs ≡ bs = take_all (length (b ∷ bs) - 1) bs (omega arith) in
    digit_longest b bs h ∙ ap (λ k. let o : Option (ℕ × Piece) = Some (suc k, number_piece (b ∷ take k bs)) in o)
    (sym (e ∙ ap (prefix_len is_digit) whole)) ∙ rw one-add refl

pub comment_front : (s : List ℕ) (n : ℕ) → 0 < length s → get_or s 0 0 ≡ 35 → n ≡ prefix_len no_line_end (take (length s - 1) (drop 1 s))
    → longest s ≡ Some (1 + n, gap)
comment_front [] n some h e = absurd (let never : ⊥ = omega (arith, some) in never)
comment_front (b ∷ bs) n some h e =
    let whole : take (length (b ∷ bs) - 1) bs ≡ bs = take_all (length (b ∷ bs) - 1) bs (omega arith) in
    ap (λ x. longest (x ∷ bs)) h ∙ comment_longest bs
    ∙ ap (λ k. let o : Option (ℕ × Piece) = Some (suc k, gap) in o) (sym (e ∙ ap (prefix_len no_line_end) whole)) ∙ rw one-add refl
