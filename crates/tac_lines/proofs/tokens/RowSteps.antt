-- The tokens of a line, one piece after another.
use Rattle.std.proofs.Common.{◌≡◌, ℕ, zero, suc, ◌+◌, ◌-◌, ◌<◌, ◌≤◌, List, [], ◌∷◌, ◌++◌, length, take, drop, refl, sym, ap, ◌∙◌, arith, Option, Some}
use Rattle.std.proofs.Common.{None, sub-one, slice_range, length-drop, drop-drop, map, append_assoc, length-take-le, append-nil, length-append}
use Rattle.std.proofs.Common.{take-take}
use Rattle.std.proofs.lemmas.List.{map_push}
use Rattle.tac_lines.specs.code.Views.{piece_at, token_view, tokens_view}
use Rattle.tac_lines.specs.declared.token.TokenKind.{TokenKind}
use Rattle.tac_lines.specs.declared.token.Token.{Token as Lexed}
use Rattle.tac_lines.specs.Tokens.{Piece, Token, Row, longest, before_row, row_from}

-- Bytes that a piece took are passed over.
pub passed : (place n : ℕ) (bs : List ℕ) → n ≤ length bs → row_from place n bs ≡ row_from (place + n) zero (drop n bs)
passed place zero [] h = refl
passed place zero (b ∷ bs) h = ap (λ p. row_from p zero (b ∷ bs)) (let e : place ≡ place + 0 = omega arith in e)
passed place (suc n) [] h = absurd (let never : ⊥ = omega (arith, h) in never)
passed place (suc n) (b ∷ bs) h =
    passed (suc place) n bs (omega (arith, h)) ∙ ap (λ p. row_from p zero (drop n bs)) (let e : suc place + n ≡ place + suc n = omega arith in e)

-- What a line holds from a byte on that begins a piece, or none.
abbrev pub row_choice : ℕ → List ℕ → Option (ℕ × Piece) → Row
row_choice place bs o = elim o as (λ _. Row) [
  | None ↦ record { tokens = []; bad = Some place }
  | Some found ↦ before_row found.1 place (place + found.0) (row_from (suc place) (found.0 - 1) bs)
]

pub row_some : (place n : ℕ) (p : Piece) (rest : List ℕ) → longest rest ≡ Some (n, p) → 0 < n → n ≤ length rest
    → row_from place zero rest ≡ before_row p place (place + n) (row_from (place + n) zero (drop n rest))
row_some place n p [] e low high = absurd (let never : ⊥ = omega (arith, low, high) in never)
row_some place zero p (b ∷ bs) e low high = absurd (let never : ⊥ = omega (arith, low) in never)
row_some place (suc n) p (b ∷ bs) e low high =
    ap (row_choice place bs) e ∙ rw sub-one (ap (before_row p place (place + suc n)) (passed (suc place) n bs (omega (arith, high))
    ∙ ap (λ q. row_from q zero (drop n bs)) (let f : suc place + n ≡ place + suc n = omega arith in f)))

pub row_none : (place : ℕ) (rest : List ℕ) → 0 < length rest → longest rest ≡ None
    → row_from place zero rest ≡ record { tokens = []; bad = Some place }
row_none place [] some e = absurd (let never : ⊥ = omega (arith, some) in never)
row_none place (b ∷ bs) some e = ap (row_choice place bs) e

-- A range of a text.
pub length-range : (text : List ℕ) (a b : ℕ) → b ≤ length text → length (slice_range text a b) ≡ b - a
length-range text a b h =
    length-take-le (b - a) (drop a text) (let e : length (drop a text) ≡ length text - a = length-drop a text in omega (arith, e, h))

take-nil : (k : ℕ) → take k [] ≡ (let r : List ℕ = [] in r)
take-nil zero = refl
take-nil (suc k) = refl

pub drop-take : (n m : ℕ) (xs : List ℕ) → drop n (take m xs) ≡ take (m - n) (drop n xs)
drop-take zero m xs = ap (λ k. take k xs) (let e : m ≡ m - 0 = omega arith in e)
drop-take (suc n) zero xs = ap (λ k. take k (drop (suc n) xs)) (let e : 0 ≡ 0 - suc n = omega arith in e)
drop-take (suc n) (suc m) [] = sym (take-nil (suc m - suc n))
drop-take (suc n) (suc m) (x ∷ xs) = drop-take n m xs ∙ ap (λ k. take k (drop n xs)) (let e : m - n ≡ suc m - suc n = omega arith in e)

pub take-range : (text : List ℕ) (a len b : ℕ) → len ≤ b - a → take len (slice_range text a b) ≡ slice_range text a (a + len)
take-range text a len b h = take-take len (b - a) (drop a text) h ∙ ap (λ k. take k (drop a text)) (let e : len ≡ (a + len) - a = omega arith in e)

pub drop-range : (text : List ℕ) (a len b : ℕ) → drop len (slice_range text a b) ≡ slice_range text (a + len) b
drop-range text a len b =
    drop-take len (b - a) (drop a text) ∙ (λ i. take (let e : (b - a) - len ≡ b - (a + len) = omega arith in e i) (drop-drop len a text i))

-- The tokens so far before those of the rest.
abbrev pub joined : List Token → Row → Row
joined ts r = record { tokens = ts ++ r.tokens; bad = r.bad }

pub row_step : (text : List ℕ) (at stop len : ℕ) (k : Option TokenKind) → at < stop → stop ≤ length text
    → longest (slice_range text at stop) ≡ Some (len, piece_at (take len (slice_range text at stop)) k) → 0 < len
    → len ≤ length (slice_range text at stop) → (row_from at zero (slice_range text at stop) ≡ before_row
    (piece_at (slice_range text at (at + len)) k) at (at + len) (row_from (at + len) zero (slice_range text (at + len) stop))) × (at + len ≤ stop)
row_step text at stop len k below inside e low high =
    let size : length (slice_range text at stop) ≡ stop - at = length-range text at stop inside in
    let fits : len ≤ stop - at = omega (arith, size, high) in (
      row_some at len (piece_at (take len (slice_range text at stop)) k) (slice_range text at stop) e low high
          ∙ (λ i.
          before_row (piece_at (take-range text at len stop fits i) k) at (at + len) (row_from (at + len) zero (drop-range text at len stop i))),
      omega (arith, fits, below),
    )

pub step_some : (text : List ℕ) (at len stop : ℕ) (whole : Row) (k : Option TokenKind) (t : TokenKind) (ts items : List Lexed)
    → items ≡ ts ++ record { kind = t; start = at; stop = at + len } ∷ [] → k ≡ Some t → row_from at zero (slice_range text at stop)
    ≡ before_row (piece_at (slice_range text at (at + len)) k) at (at + len) (row_from (at + len) zero (slice_range text (at + len) stop))
    → joined (tokens_view text ts) (row_from at zero (slice_range text at stop)) ≡ whole
    → joined (tokens_view text items) (row_from (at + len) zero (slice_range text (at + len) stop)) ≡ whole
step_some text at len stop whole k t ts items pushed is_some step before =
    let tail : Row = row_from (at + len) zero (slice_range text (at + len) stop) in
    let token : Token = token_view text (record { kind = t; start = at; stop = at + len }) in
    let one : tokens_view text items ≡ tokens_view text ts ++ token ∷ [] =
    ap (map (token_view text)) pushed ∙ map_push (token_view text) ts (record { kind = t; start = at; stop = at + len }) in
    ap (λ xs. joined xs tail) one
    ∙ ap (λ xs. let r : Row = record { tokens = xs; bad = tail.bad } in r) (append_assoc (tokens_view text ts) (token ∷ []) tail.tokens)
    ∙ ap (λ o. joined (tokens_view text ts) (before_row (piece_at (slice_range text at (at + len)) o) at (at + len) tail)) (sym is_some)
    ∙ ap (joined (tokens_view text ts)) (sym step) ∙ before

pub step_gap : (text : List ℕ) (at len stop : ℕ) (whole : Row) (k : Option TokenKind) (ts items : List Lexed) → items ≡ ts → ((t : TokenKind)
    → k ≡ Some t → ⊥) → row_from at zero (slice_range text at stop) ≡ before_row (piece_at (slice_range text at (at + len)) k) at (at + len)
    (row_from (at + len) zero (slice_range text (at + len) stop)) → joined (tokens_view text ts) (row_from at zero (slice_range text at stop)) ≡ whole
    → joined (tokens_view text items) (row_from (at + len) zero (slice_range text (at + len) stop)) ≡ whole
step_gap text at len stop whole None ts items same none step before =
    ap (λ xs. joined (tokens_view text xs) (row_from (at + len) zero (slice_range text (at + len) stop))) same
    ∙ ap (joined (tokens_view text ts)) (sym step) ∙ before
step_gap text at len stop whole (Some t) ts items same none step before = absurd (none t refl)

-- Where the line ends, and where a byte begins no piece.
pub row_ends : (text : List ℕ) (at stop : ℕ) (whole : Row) (ts : List Token) → stop ≤ at
    → joined ts (row_from at zero (slice_range text at stop)) ≡ whole → whole ≡ record { tokens = ts; bad = None }
row_ends text at stop whole ts h e =
    sym e ∙ ap (λ xs. joined ts (row_from at zero xs)) (ap (λ k. take k (drop at text)) (let z : stop - at ≡ 0 = omega (arith, h) in z))
    ∙ ap (λ xs. let r : Row = record { tokens = xs; bad = None } in r) (append-nil ts)

pub row_stops : (text : List ℕ) (at stop : ℕ) (whole : Row) (ts : List Token) → at < stop → stop ≤ length text → longest (slice_range text at stop)
    ≡ None → joined ts (row_from at zero (slice_range text at stop)) ≡ whole → whole ≡ record { tokens = ts; bad = Some at }
row_stops text at stop whole ts below inside e before =
    let size : length (slice_range text at stop) ≡ stop - at = length-range text at stop inside in
    sym before ∙ ap (joined ts) (row_none at (slice_range text at stop) (omega (arith, size, below)) e)
    ∙ ap (λ xs. let r : Row = record { tokens = xs; bad = Some at } in r) (append-nil ts)

pub length-push : (xs ys : List Lexed) (x : Lexed) → ys ≡ xs ++ x ∷ [] → length ys ≡ length xs + 1
length-push xs ys x e = omega (arith, ap length e, length-append xs (x ∷ []))
