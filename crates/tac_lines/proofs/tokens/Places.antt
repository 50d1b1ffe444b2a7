-- Where the tokens of a line stand, and so where its faults do.
use Rattle.std.proofs.Common.{◌≡◌, ℕ, zero, suc, ◌+◌, ◌-◌, ◌<◌, ◌≤◌, ◌⊎◌, inl, inr, Bool, true, false, not, ◌&&◌, ◌||◌, List, [], ◌∷◌, length, take}
use Rattle.std.proofs.Common.{refl, sym, ap, ◌∙◌, subst, arith, Option, Some, None, bytes_eq, true≢false, eq-or-lt_of_le, take_all}
use Rattle.std.specs.List.{list_all}
use Rattle.std.specs.Cmp.Lexicographic.{same_text}
use Rattle.std.proofs.lemmas.Bool.{and_parts}
use Rattle.std.proofs.lemmas.Option.{same_Some}
use Rattle.tac_lines.specs.Text.{is_line_end, no_line_end}
use Rattle.tac_lines.specs.Tokens.{Word, Piece, word, gap, Token, Row, is_number, is_blank, is_comment, signs, piece_of, longest, longest_of}
use Rattle.tac_lines.specs.Tokens.{before_row, row_from}
use Rattle.tac_program.specs.Spelling.{is_digit, is_letter, is_name_byte, is_name}
use Rattle.tac_program.specs.Names.{is_one_of}
use Rattle.tac_lines.proofs.tokens.Longest.{piece_of-picked}

-- Whether the last byte is a line feed.
abbrev pub ends_line : List ℕ → Bool
ends_line [] = false
ends_line (b ∷ []) = is_line_end b
ends_line (b ∷ c ∷ cs) = ends_line (c ∷ cs)

-- What the longest piece is: a front of some bytes that is a piece.
pub longest_front : (n : ℕ) (s : List ℕ) (found : ℕ × Piece) → longest_of n s ≡ Some found
    → (0 < found.0) × (found.0 ≤ n) × (piece_of (take found.0 s) ≡ Some found.1)
longest_front zero s found e = absurd (cc e)
longest_front (suc n) s found e = go (piece_of (take (suc n) s)) refl (λ k. longest_front n s found k) where
  choice : Option Piece → Option (ℕ × Piece)
  choice o = elim o as (λ _. Option (ℕ × Piece)) [ Some p ↦ Some (suc n, p) | None ↦ longest_of n s ]

  go : (o : Option Piece) → piece_of (take (suc n) s) ≡ o → (longest_of n s ≡ Some found → (0 < found.0) × (found.0 ≤ n)
      × (piece_of (take found.0 s) ≡ Some found.1)) → (0 < found.0) × (found.0 ≤ suc n) × (piece_of (take found.0 s) ≡ Some found.1)
  go None h later =
      let r = later (sym (ap (λ o. elim o as (λ _. Option (ℕ × Piece)) [ Some p ↦ Some (suc n, p) | None ↦ longest_of n s ]) h) ∙ e) in
      (r.0, omega (arith, r.1), r.2)
  go (Some p) h later =
      let r : ◌≡◌ {A = ℕ × Piece} (suc n, p) found =
      same_Some (suc n, p) found (sym (ap (λ o. elim o as (λ _. Option (ℕ × Piece)) [ Some q ↦ Some (suc n, q) | None ↦ longest_of n s ]) h) ∙ e) in
      subst (λ f. (0 < f.0) × (f.0 ≤ suc n) × (piece_of (take f.0 s) ≡ Some f.1)) r (omega arith, omega arith, h)

-- No word has a line feed.
all_of : (p q : ℕ → Bool) (s : List ℕ) → ((b : ℕ) → p b ≡ true → q b ≡ true) → list_all p s ≡ true → list_all q s ≡ true
all_of p q [] f h = refl
all_of p q (b ∷ bs) f h = let parts = and_parts (p b) (list_all p bs) h in (λ i. f b parts.0 i && all_of p q bs f parts.1 i)

digit_no_end : (b : ℕ) → is_digit b ≡ true → no_line_end b ≡ true
digit_no_end b h = grind (arith, h)

letter_no_end : (b : ℕ) → is_letter b ≡ true → no_line_end b ≡ true
letter_no_end b h = grind (arith, h)

name_no_end : (b : ℕ) → is_name_byte b ≡ true → no_line_end b ≡ true
name_no_end b h = grind (arith, h)

one_of_no_end : (s : List ℕ) (ts : List (List ℕ)) → list_all (λ t. list_all no_line_end t) ts ≡ true → is_one_of s ts ≡ true
    → list_all no_line_end s ≡ true
one_of_no_end s [] all h = absurd (true≢false (sym h))
one_of_no_end s (t ∷ ts) all h =
    go (bytes_eq s t) refl (and_parts (list_all no_line_end t) (list_all (λ u. list_all no_line_end u) ts) all) (λ a k. one_of_no_end s ts a k) where
      go : (b : Bool) → bytes_eq s t ≡ b → (list_all no_line_end t ≡ true) × (list_all (λ u. list_all no_line_end u) ts ≡ true)
          → (list_all (λ u. list_all no_line_end u) ts ≡ true → is_one_of s ts ≡ true → list_all no_line_end s ≡ true) → list_all no_line_end s ≡ true
      go true e parts later = ap (list_all no_line_end) (same_text s t (sym e)) ∙ parts.0
      go false e parts later = later parts.1 (sym (ap (λ b. b || is_one_of s ts) e) ∙ h)

is_name_no_end : (s : List ℕ) → is_name s ≡ true → list_all no_line_end s ≡ true
is_name_no_end [] h = refl
is_name_no_end (b ∷ bs) h =
    let parts = and_parts (is_letter b) (list_all is_name_byte bs) h in
    (λ i. letter_no_end b parts.0 i && all_of is_name_byte no_line_end bs name_no_end parts.1 i)

is_number_no_end : (s : List ℕ) → is_number s ≡ true → list_all no_line_end s ≡ true
is_number_no_end [] h = refl
is_number_no_end (b ∷ bs) h =
    let parts = and_parts (is_digit b) (list_all is_digit bs) h in
    (λ i. digit_no_end b parts.0 i && all_of is_digit no_line_end bs digit_no_end parts.1 i)

pub word_no_end : (s : List ℕ) (w : Word) → piece_of s ≡ Some (word w) → list_all no_line_end s ≡ true
word_no_end s w e = go (is_name s) (is_number s) (is_one_of s signs) (is_blank s || is_comment s) refl refl refl refl where
  go : (a b c d : Bool) → is_name s ≡ a → is_number s ≡ b → is_one_of s signs ≡ c → (is_blank s || is_comment s) ≡ d → list_all no_line_end s ≡ true
  go true b c d ea eb ec ed = is_name_no_end s ea
  go false true c d ea eb ec ed = is_number_no_end s eb
  go false false true d ea eb ec ed = one_of_no_end s signs refl ec
  go false false false true ea eb ec ed =
      absurd (let k : ◌≡◌ {A = Option Piece} (Some gap) (Some (word w)) = sym (piece_of-picked s false false false true ea eb ec ed) ∙ e in cc k)
  go false false false false ea eb ec ed =
      absurd (let k : ◌≡◌ {A = Option Piece} None (Some (word w)) = sym (piece_of-picked s false false false false ea eb ec ed) ∙ e in cc k)

no_end_at : (s : List ℕ) → list_all no_line_end s ≡ true → ends_line s ≡ true → ⊥
no_end_at [] h e = true≢false (sym e)
no_end_at (b ∷ []) h e = let k : not (is_line_end b) ≡ true = (and_parts (no_line_end b) true h).0 in true≢false (sym k ∙ ap not e)
no_end_at (b ∷ c ∷ cs) h e = no_end_at (c ∷ cs) (and_parts (no_line_end b) (list_all no_line_end (c ∷ cs)) h).1 e

-- A token between two places, and before the second where the line ends there.
pub record StandsIn (low high : ℕ) (ended : Bool) (t : Token) : Type 0 where
  pub from : low ≤ t.start
  pub some : t.start < t.stop
  pub to : t.stop ≤ high
  pub before : ended ≡ true → t.stop < high

abbrev pub EachToken : (Token → Type 0) → List Token → Type 0
EachToken P [] = Unit {0}
EachToken P (t ∷ ts) = P t × EachToken P ts

abbrev pub BadIn : ℕ → ℕ → Option ℕ → Type 0
BadIn low high None = Unit {0}
BadIn low high (Some b) = (low ≤ b) × (b < high)

pub record RowIn (low high : ℕ) (ended : Bool) (row : Row) : Type 0 where
  pub tokens : EachToken (StandsIn low high ended) row.tokens
  pub bad : BadIn low high row.bad

lower : (low low' high : ℕ) (ended ended' : Bool) → low ≤ low' → (ended ≡ true → ended' ≡ true) → (ts : List Token)
    → EachToken (StandsIn low' high ended') ts → EachToken (StandsIn low high ended) ts
lower low low' high ended ended' l f [] h = tt
lower low low' high ended ended' l f (t ∷ ts) h = (
  record { from = omega (arith, l, (h.0).from); some = (h.0).some; to = (h.0).to; before = λ e. (h.0).before (f e) },
  lower low low' high ended ended' l f ts h.1,
)

lower_bad : (low low' high : ℕ) → low ≤ low' → (bad : Option ℕ) → BadIn low' high bad → BadIn low high bad
lower_bad low low' high l None h = tt
lower_bad low low' high l (Some b) h = (omega (arith, l, h.0), h.1)

lower_row : (low low' high : ℕ) (ended ended' : Bool) → low ≤ low' → (ended ≡ true → ended' ≡ true) → (row : Row) → RowIn low' high ended' row
    → RowIn low high ended row
lower_row low low' high ended ended' l f row h =
    record { tokens = lower low low' high ended ended' l f row.tokens h.tokens; bad = lower_bad low low' high l row.bad h.bad }

tail_ends : (b : ℕ) (bs : List ℕ) → 0 < length bs → ends_line (b ∷ bs) ≡ true → ends_line bs ≡ true
tail_ends b [] some h = absurd (let never : ⊥ = omega (arith, some) in never)
tail_ends b (c ∷ cs) some h = h

pub row_in : (place inside high : ℕ) (bs : List ℕ) → place + length bs ≡ high → RowIn place high (ends_line bs) (row_from place inside bs)
row_in place inside high [] e = record { tokens = tt; bad = tt }
row_in place (suc inside) high (b ∷ bs) e = later bs (row_in (suc place) inside high bs (omega (arith, e))) where
  later : (cs : List ℕ) → RowIn (suc place) high (ends_line cs) (row_from (suc place) inside cs)
      → RowIn place high (ends_line (b ∷ cs)) (row_from (suc place) inside cs)
  later [] h = record { tokens = tt; bad = tt }
  later (c ∷ cs) h =
      lower_row place (suc place) high (ends_line (c ∷ cs)) (ends_line (c ∷ cs)) (omega arith) (λ k. k) (row_from (suc place) inside (c ∷ cs)) h
row_in place zero high (b ∷ bs) e = go (longest (b ∷ bs)) refl (λ n. row_in (suc place) n high bs (omega (arith, e))) where
  rest : (n : ℕ) (cs : List ℕ) → RowIn (suc place) high (ends_line cs) (row_from (suc place) n cs)
      → RowIn place high (ends_line (b ∷ cs)) (row_from (suc place) n cs)
  rest n [] h = record { tokens = tt; bad = tt }
  rest n (c ∷ cs) h =
      lower_row place (suc place) high (ends_line (c ∷ cs)) (ends_line (c ∷ cs)) (omega arith) (λ k. k) (row_from (suc place) n (c ∷ cs)) h

  first : (n : ℕ) (p : Piece) (row : Row) → longest (b ∷ bs) ≡ Some (n, p) → RowIn place high (ends_line (b ∷ bs)) row
      → RowIn place high (ends_line (b ∷ bs)) (before_row p place (place + n) row)
  first n gap row h r = r
  first n (word w) row h r =
      let front = longest_front (suc (length bs)) (b ∷ bs) (n, word w) h in
      record {
        tokens = (
          record {
            from = omega arith;
            some = omega (arith, front.0);
            to = omega (arith, front.1, e);
            before = λ ended. short (eq-or-lt_of_le front.1) ended front.2;
          },
          r.tokens,
        );
        bad = r.bad;
      }
    where
      short : (n ≡ suc (length bs)) ⊎ (n < suc (length bs)) → ends_line (b ∷ bs) ≡ true → piece_of (take n (b ∷ bs)) ≡ Some (word w)
          → place + n < high
      short (inl all) ended piece =
          absurd (no_end_at (b ∷ bs) (word_no_end (b ∷ bs) w (sym (ap piece_of (take_all n (b ∷ bs) (omega (arith, all)))) ∙ piece)) ended)
      short (inr less) ended piece = omega (arith, less, e)

  go : (o : Option (ℕ × Piece)) → longest (b ∷ bs) ≡ o → ((n : ℕ) → RowIn (suc place) high (ends_line bs) (row_from (suc place) n bs))
      → RowIn place high (ends_line (b ∷ bs)) (elim (longest (b ∷ bs)) as (λ _. Row) [
        | None ↦ record { tokens = []; bad = Some place }
        | Some found ↦ before_row found.1 place (place + found.0) (row_from (suc place) (found.0 - 1) bs)
      ])
  go None h later = subst (λ o. RowIn place high (ends_line (b ∷ bs)) (elim o as (λ _. Row) [
    | None ↦ record { tokens = []; bad = Some place }
    | Some found ↦ before_row found.1 place (place + found.0) (row_from (suc place) (found.0 - 1) bs)
  ])) (sym h) (record { tokens = tt; bad = (omega arith, omega (arith, e)) })
  go (Some found) h later = subst (λ o. RowIn place high (ends_line (b ∷ bs)) (elim o as (λ _. Row) [
    | None ↦ record { tokens = []; bad = Some place }
    | Some f ↦ before_row f.1 place (place + f.0) (row_from (suc place) (f.0 - 1) bs)
  ])) (sym h) (first found.0 found.1 (row_from (suc place) (found.0 - 1) bs) h (rest (found.0 - 1) bs (later (found.0 - 1))))
