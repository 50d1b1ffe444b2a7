-- The bytes from a token's start to its stop spell it.
use Rattle.std.proofs.Common.{◌≡◌, ℕ, zero, suc, ◌+◌, ◌-◌, ◌≤◌, List, [], ◌∷◌, ◌++◌, length, take, drop, flat_map, refl, sym, ap, ◌∙◌, subst, arith}
use Rattle.std.proofs.Common.{Option, Some, None, All, slice_range, length-append}
use Rattle.std.specs.List.{AllByRecursion as Each}
use Rattle.std.proofs.lemmas.List.{take-append-le}
use Rattle.std.proofs.lemmas.List.Elements.{All-from_recursion}
use Rattle.tac_lines.specs.Text.{lines}
use Rattle.tac_lines.specs.Tokens.{Piece, word, gap, Row, piece_of, longest, before_row, row_from, rows_from, rows}
use Rattle.tac_lines.specs.LineLaws.{IsSpelled, TokensAreSpelled}
use Rattle.tac_lines.proofs.tokens.Places.{longest_front}
use Rattle.tac_lines.proofs.lines.Lines.{lines_join}
use Rattle.tac_lines.proofs.tokens.RowSteps.{row_choice}

pub drop_next : (n : ℕ) (xs ys : List ℕ) (b : ℕ) → drop n xs ≡ b ∷ ys → drop (suc n) xs ≡ ys
drop_next zero [] ys b e = absurd (cc e)
drop_next zero (x ∷ xs) ys b e = cc
drop_next (suc n) [] ys b e = absurd (cc e)
drop_next (suc n) (x ∷ xs) ys b e = drop_next n xs ys b e

-- A range is a front of what stands from its start on.
range_front : (text bs after : List ℕ) (place n : ℕ) → drop place text ≡ bs ++ after → n ≤ length bs → slice_range text place (place + n) ≡ take n bs
range_front text bs after place n e h =
    let size : (place + n) - place ≡ n = omega arith in
    (λ i. take (size i) (e i)) ∙ take-append-le n bs after h

row_spelled : (text after : List ℕ) (place inside : ℕ) (bs : List ℕ) → drop place text ≡ bs ++ after → place + length bs ≤ length text
    → Each (IsSpelled text) (row_from place inside bs).tokens
row_spelled text after place inside [] e h = tt
row_spelled text after place (suc inside) (b ∷ bs) e h =
    row_spelled text after (suc place) inside bs (drop_next place text (bs ++ after) b e) (omega (arith, h))
row_spelled text after place zero (b ∷ bs) e h =
    go (longest (b ∷ bs)) refl (λ n. row_spelled text after (suc place) n bs (drop_next place text (bs ++ after) b e) (omega (arith, h)))
  where
    first : (n : ℕ) (p : Piece) (row : Row) → longest (b ∷ bs) ≡ Some (n, p) → Each (IsSpelled text) row.tokens
        → Each (IsSpelled text) (before_row p place (place + n) row).tokens
    first n gap row k r = r
    first n (word w) row k r =
        let front = longest_front (suc (length bs)) (b ∷ bs) (n, word w) k in
        ((omega (arith, front.0), omega (arith, front.1, h), ap piece_of (range_front text (b ∷ bs) after place n e front.1) ∙ front.2), r)

    go : (o : Option (ℕ × Piece)) → longest (b ∷ bs) ≡ o → ((n : ℕ) → Each (IsSpelled text) (row_from (suc place) n bs).tokens)
        → Each (IsSpelled text) (row_choice place bs (longest (b ∷ bs))).tokens
    go None k later = subst (λ o. Each (IsSpelled text) (row_choice place bs o).tokens) (sym k) tt
    go (Some found) k later = subst (λ o. Each (IsSpelled text) (row_choice place bs o).tokens) (sym k)
        (first found.0 found.1 (row_from (suc place) (found.0 - 1) bs) k (later (found.0 - 1)))

pub drop_past : (text l rest : List ℕ) (place : ℕ) → drop place text ≡ l ++ rest → drop (place + length l) text ≡ rest
drop_past text [] rest place e = ap (λ k. drop k text) (let n : place + 0 ≡ place = omega arith in n) ∙ e
drop_past text (b ∷ bs) rest place e =
    ap (λ k. drop k text) (let n : place + suc (length bs) ≡ suc place + length bs = omega arith in n)
    ∙ drop_past text bs rest (suc place) (drop_next place text (bs ++ rest) b e)

rows_spelled : (text : List ℕ) (place : ℕ) (ls : List (List ℕ)) → drop place text ≡ flat_map (λ l. l) ls
    → place + length (flat_map (λ (l : List ℕ). l) ls) ≤ length text → Each (λ row. All (IsSpelled text) row.tokens) (rows_from place ls)
rows_spelled text place [] e h = tt
rows_spelled text place (l ∷ ls) e h =
    let size : length (l ++ flat_map (λ x. x) ls) ≡ length l + length (flat_map (λ (x : List ℕ). x) ls) = length-append l (flat_map (λ x. x) ls) in (
      All-from_recursion (IsSpelled text) (row_from place zero l).tokens
          (row_spelled text (flat_map (λ x. x) ls) place zero l e (omega (arith, h, size))),
      rows_spelled text (place + length l) ls (drop_past text l (flat_map (λ x. x) ls) place e) (omega (arith, h, size)),
    )

pub tokens_are_spelled : TokensAreSpelled
tokens_are_spelled text =
    All-from_recursion (λ row. All (IsSpelled text) row.tokens) (rows text)
    (rows_spelled text 0 (lines text) (sym (lines_join text))
    (let e : length (flat_map (λ (l : List ℕ). l) (lines text)) ≡ length text = ap length (lines_join text) in omega (arith, e)))
