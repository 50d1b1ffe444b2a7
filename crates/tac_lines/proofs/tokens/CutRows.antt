-- A line cut off behind its last token has the same tokens, and no bad byte.
use Rattle.std.proofs.Common.{◌≡◌, ℕ, zero, suc, ◌+◌, ◌-◌, ◌<◌, ◌≤◌, ◌⊎◌, inl, inr, Bool, List, [], ◌∷◌, length, take, drop, min, refl, sym, ap, ◌∙◌}
use Rattle.std.proofs.Common.{subst, arith, Option, Some, None, eq-or-lt_of_le, take-take}
use Rattle.std.proofs.lemmas.List.{length-take, length-drop}
use Rattle.std.proofs.lemmas.Option.{same_Some}
use Rattle.tac_lines.specs.Tokens.{Piece, word, gap, Token, Row, piece_of, longest, longest_of, before_row, row_from}
use Rattle.tac_lines.proofs.tokens.Longest.{longest_is}
use Rattle.tac_lines.proofs.tokens.Places.{longest_front, ends_line, StandsIn, EachToken, row_in}
use Rattle.tac_lines.proofs.tokens.RowSteps.{row_some, row_none, drop-take}

-- No longer front is a piece.
longest_past : (n : ℕ) (s : List ℕ) (found : ℕ × Piece) → longest_of n s ≡ Some found → (k : ℕ) → found.0 < k → k ≤ n → piece_of (take k s) ≡ None
longest_past zero s found e k low high = absurd (cc e)
longest_past (suc n) s found e k low high = go (piece_of (take (suc n) s)) refl (λ h below. longest_past n s found h k low below) where
  go : (o : Option Piece) → piece_of (take (suc n) s) ≡ o → (longest_of n s ≡ Some found → k ≤ n → piece_of (take k s) ≡ None)
      → piece_of (take k s) ≡ None
  go None h later = at (eq-or-lt_of_le high) where
    rest : longest_of n s ≡ Some found
    rest = sym (ap (λ o. elim o as (λ _. Option (ℕ × Piece)) [ Some p ↦ Some (suc n, p) | None ↦ longest_of n s ]) h) ∙ e

    at : (k ≡ suc n) ⊎ (k < suc n) → piece_of (take k s) ≡ None
    at (inl same_size) = ap (λ j. piece_of (take j s)) same_size ∙ h
    at (inr less) = later rest (omega (arith, less))
  go (Some p) h later =
      let r : ◌≡◌ {A = ℕ × Piece} (suc n, p) found =
      same_Some (suc n, p) found (sym (ap (λ o. elim o as (λ _. Option (ℕ × Piece)) [ Some q ↦ Some (suc n, q) | None ↦ longest_of n s ]) h) ∙ e) in
      let size : suc n ≡ found.0 = ap (λ x. x.0) r in
      absurd (let never : ⊥ = omega (arith, size, low, high) in never)

-- So it stays the longest where a line is cut off behind it.
longest_cut : (m n : ℕ) (s : List ℕ) (p : Piece) → longest s ≡ Some (n, p) → n ≤ m → longest (take m s) ≡ Some (n, p)
longest_cut m zero s p e h = absurd (let front = longest_front (length s) s (zero, p) e in let never : ⊥ = omega (arith, front.0) in never)
longest_cut m (suc n) s p e h =
    let front = longest_front (length s) s (suc n, p) e in
    let size : length (take m s) ≡ min m (length s) = length-take m s in
    longest_is (length (take m s)) n (take m s) p (omega (arith, size, h, front.1)) (ap piece_of (take-take (suc n) m s h) ∙ front.2)
    (λ k low high. ap piece_of (take-take k m s (omega (arith, high, size)))
    ∙ longest_past (length s) s (suc n, p) e k low (omega (arith, high, size)))

row_cut_step : (place n end : ℕ) (p : Piece) (bs : List ℕ) → longest bs ≡ Some (n, p) → place + n ≤ end
    → row_from place zero (take (end - place) bs) ≡ before_row p place (place + n) (row_from (place + n) zero (take (end - (place + n)) (drop n bs)))
row_cut_step place n end p bs e h =
    let front = longest_front (length bs) bs (n, p) e in
    let size : length (take (end - place) bs) ≡ min (end - place) (length bs) = length-take (end - place) bs in
    row_some place n p (take (end - place) bs) (longest_cut (end - place) n bs p e (omega (arith, h))) front.0 (omega (arith, size, h, front.1))
    ∙ ap (λ r. before_row p place (place + n) (row_from (place + n) zero r))
    (drop-take n (end - place) bs ∙ ap (λ k. take k (drop n bs)) (let k : (end - place) - n ≡ end - (place + n) = omega arith in k))

-- Where tokens end that begin at a place.
abbrev pub end_of : ℕ → List Token → ℕ
end_of place [] = place
end_of place (t ∷ ts) = end_of t.stop ts

end_above : (low high p : ℕ) (ended : Bool) (ts : List Token) → EachToken (StandsIn low high ended) ts → low ≤ p → low ≤ end_of p ts
end_above low high p ended [] h l = l
end_above low high p ended (t ∷ ts) h l = end_above low high t.stop ended ts h.1 (omega (arith, (h.0).from, (h.0).some))

abbrev pub IsCut : ℕ → List ℕ → Row → Type 0
IsCut place bs row = row_from place zero (take (end_of place row.tokens - place) bs) ≡ record { tokens = row.tokens; bad = None }

empty_cut : (place : ℕ) (bs : List ℕ) (bad : Option ℕ) → IsCut place bs (record { tokens = []; bad = bad })
empty_cut place bs bad = ap (λ k. row_from place zero (take k bs)) (let e : place - place ≡ 0 = omega arith in e)

-- A piece before a line that may be cut off.
module _ (place n high : ℕ) (ended : Bool) (bs : List ℕ) where
  gap_cut : (ts : List Token) → longest bs ≡ Some (n, gap) → EachToken (StandsIn (place + n) high ended) ts
      → row_from (place + n) zero (take (end_of (place + n) ts - (place + n)) (drop n bs)) ≡ record { tokens = ts; bad = None }
      → row_from place zero (take (end_of place ts - place) bs) ≡ record { tokens = ts; bad = None }
  gap_cut [] e h cut = empty_cut place bs None
  gap_cut (t ∷ ts) e h cut =
      row_cut_step place n (end_of t.stop ts) gap bs e (end_above (place + n) high t.stop ended ts h.1 (omega (arith, (h.0).from, (h.0).some))) ∙ cut

  piece_cut : (p : Piece) (row : Row) → longest bs ≡ Some (n, p) → EachToken (StandsIn (place + n) high ended) row.tokens
      → IsCut (place + n) (drop n bs) row → IsCut place bs (before_row p place (place + n) row)
  piece_cut gap row e h cut = gap_cut row.tokens e h cut
  piece_cut (word w) row e h cut =
      row_cut_step place n (end_of (place + n) row.tokens) (word w) bs e (end_above (place + n) high (place + n) ended row.tokens h (omega arith))
      ∙ ap (before_row (word w) place (place + n)) cut

pub row_cut : (fuel place : ℕ) (bs : List ℕ) → length bs ≤ fuel → IsCut place bs (row_from place zero bs)
row_cut zero place [] h = empty_cut place [] None
row_cut (suc fuel) place [] h = empty_cut place [] None
row_cut zero place (b ∷ bs) h = absurd (let never : ⊥ = omega (arith, h) in never)
row_cut (suc fuel) place (b ∷ bs) h =
    go (longest (b ∷ bs)) refl (λ n some. row_cut fuel (place + n) (drop n (b ∷ bs))
    (let e : length (drop n (b ∷ bs)) ≡ length (b ∷ bs) - n = length-drop n (b ∷ bs) in omega (arith, e, h, some)))
  where
    go : (o : Option (ℕ × Piece)) → longest (b ∷ bs) ≡ o → ((n : ℕ) → 0 < n
        → IsCut (place + n) (drop n (b ∷ bs)) (row_from (place + n) zero (drop n (b ∷ bs)))) → IsCut place (b ∷ bs) (row_from place zero (b ∷ bs))
    go None k later = subst (IsCut place (b ∷ bs)) (sym (row_none place (b ∷ bs) (omega arith) k)) (empty_cut place (b ∷ bs) (Some place))
    go (Some found) k later =
        let n : ℕ = found.0 in
        let rest : List ℕ = drop n (b ∷ bs) in
        let front = longest_front (suc (length bs)) (b ∷ bs) found k in
        let tokens = row_in (place + n) zero (place + n + length rest) rest refl in
        subst (IsCut place (b ∷ bs)) (sym (row_some place n found.1 (b ∷ bs) k front.0 front.1))
        (piece_cut place n (place + n + length rest) (ends_line rest) (b ∷ bs) found.1 (row_from (place + n) zero rest) k tokens.tokens
        (later n front.0))
