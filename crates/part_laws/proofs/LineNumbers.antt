-- On which lines of a text its tokens stand.
use Rattle.std.proofs.Common.{◌≡◌, ℕ, zero, suc, ◌+◌, ◌-◌, ◌<◌, ◌≤◌, Bool, true, false, not, List, [], ◌∷◌, ◌++◌, length, map, flat_map, cond}
use Rattle.std.proofs.Common.{take, count_by, Option, Some, None, if◌then◌else◌, ◌&&◌, refl, sym, ap, ◌∙◌, subst, arith, append_assoc}
use Rattle.std.proofs.lemmas.List.Sums.{sum_by-append}
use Rattle.std.proofs.lemmas.List.{length-append, take-append-le}
use Rattle.std.proofs.Math.Seq.{take-append-add, take-length}
use Rattle.std.specs.List.{list_all, onto_first}
use Rattle.tac_lines.specs.Text.{is_line_end, line_after, lines, no_line_end}
use Rattle.tac_lines.specs.Tokens.{Piece, gap, word, Row, Token, before_row, longest, row_from, rows, rows_from, token_lines, unless_empty}

-- Lines of a text: without a line feed but for the last byte of each, which the last line may lack.
pub data Lined : List (List ℕ) → Type 0 where
  lined_none : Lined []
  lined_last : (l : List ℕ) → list_all no_line_end l ≡ true → Lined (l ∷ [])
  lined_more : (l : List ℕ) (ls : List (List ℕ)) → list_all no_line_end l ≡ true → Lined ls → Lined ((l ++ 10 ∷ []) ∷ ls)

lined_onto : (b : ℕ) (ls : List (List ℕ)) → no_line_end b ≡ true → Lined ls → Lined (onto_first b ls)
lined_onto b [] plain lined_none = lined_last (b ∷ []) (rw plain refl)
lined_onto b (_ ∷ []) plain (lined_last l all) = lined_last (b ∷ l) (rw plain all)
lined_onto b (_ ∷ _) plain (lined_more l ls all rest) = lined_more (b ∷ l) ls (rw plain all) rest

pub are_lined : (text : List ℕ) → Lined (lines text)
are_lined [] = lined_none
are_lined (b ∷ bs) = by_test (is_line_end b) refl (are_lined bs) where
  by_test : (e : Bool) → is_line_end b ≡ e → Lined (lines bs) → Lined (lines (b ∷ bs))
  by_test true test rest =
      let is_feed : b ≡ 10 = grind (arith, test) in
      rw test (subst (λ (c : ℕ). Lined ((c ∷ []) ∷ lines bs)) (sym is_feed) (lined_more [] (lines bs) refl rest))
  by_test false test rest = rw test (lined_onto b (lines bs) (rw test refl) rest)

-- all bytes of lines
abbrev joined : List (List ℕ) → List ℕ
joined ls = flat_map (λ l. l) ls

joined_onto : (b : ℕ) (ls : List (List ℕ)) → joined (onto_first b ls) ≡ b ∷ joined ls
joined_onto b [] = refl
joined_onto b (l ∷ ls) = refl

pub are_joined : (text : List ℕ) → joined (lines text) ≡ text
are_joined [] = refl
are_joined (b ∷ bs) = by_test (is_line_end b) refl (are_joined bs) where
  by_test : (e : Bool) → is_line_end b ≡ e → joined (lines bs) ≡ bs → joined (lines (b ∷ bs)) ≡ b ∷ bs
  by_test true test rest = rw test (ap (λ (r : List ℕ). b ∷ r) rest)
  by_test false test rest = rw test (joined_onto b (lines bs) ∙ ap (λ (r : List ℕ). b ∷ r) rest)

-- how many line feeds there are
abbrev feeds : List ℕ → ℕ
feeds bytes = count_by is_line_end bytes

feeds_append : (xs ys : List ℕ) → feeds (xs ++ ys) ≡ feeds xs + feeds ys
feeds_append xs ys = sum_by-append (λ b. cond (is_line_end b) 1 0) xs ys

no_feeds : (n : ℕ) (l : List ℕ) → list_all no_line_end l ≡ true → feeds (take n l) ≡ 0
no_feeds zero l all = refl
no_feeds (suc n) [] all = refl
no_feeds (suc n) (b ∷ bs) all = by_test (is_line_end b) refl (no_feeds n bs) where
  by_test : (e : Bool) → is_line_end b ≡ e → (list_all no_line_end bs ≡ true → feeds (take n bs) ≡ 0) → feeds (take (suc n) (b ∷ bs)) ≡ 0
  by_test true test rest = absurd (let no : list_all no_line_end (b ∷ bs) ≡ false = rw test refl in cc (all, no))
  by_test false test rest =
      let same : list_all no_line_end (b ∷ bs) ≡ list_all no_line_end bs = rw test refl in
      let fed : feeds (b ∷ take n bs) ≡ feeds (b ∷ []) + feeds (take n bs) = feeds_append (b ∷ []) (take n bs) in
      let none : feeds (b ∷ []) ≡ 0 = rw test refl in
      let others : feeds (take n bs) ≡ 0 = rest (sym same ∙ all) in
      omega (arith, fed, none, others)

module _ (text : List ℕ) where
  -- all tokens stand on a line
  abbrev pub AllOn : ℕ → List Token → Type 0
  AllOn n [] = Unit {0}
  AllOn n (t ∷ ts) = (line_after (take t.start text) ≡ n) × AllOn n ts

  -- each list of tokens stands on a line of its own, below those before it and below one
  pub data Numbered : ℕ → List (List Token) → Type 0 where
    numbered_none : (n : ℕ) → Numbered n []
    numbered_next : (n m : ℕ) (ts : List Token) (others : List (List Token)) → n < m → AllOn m ts → Numbered m others → Numbered n (ts ∷ others)

  pub numbered_less : (k n : ℕ) (tss : List (List Token)) → k ≤ n → Numbered n tss → Numbered k tss
  numbered_less k _ [] below (numbered_none n) = numbered_none k
  numbered_less k _ (_ ∷ _) below (numbered_next n m ts others less on rest) = numbered_next k m ts others (omega (arith, below, less)) on rest

  -- The places of a row's tokens lie in its line.
  row_on : (n place inside : ℕ) (line : List ℕ)
      → ((s : ℕ) → place ≤ s → s < place + length line → line_after (take s text) ≡ n) → AllOn n (row_from place inside line).tokens
  row_on n place inside [] at = by_inside inside where
    by_inside : (i : ℕ) → AllOn n (row_from place i []).tokens
    by_inside zero = tt
    by_inside (suc i) = tt
  row_on n place (suc inside) (b ∷ bs) at =
      row_on n (suc place) inside bs (λ s low high. at s (omega (arith, low)) (omega (arith, high)))
  row_on n place zero (b ∷ bs) at =
      by_piece (longest (b ∷ bs)) refl
      (λ inside. row_on n (suc place) inside bs (λ s low high. at s (omega (arith, low)) (omega (arith, high))))
    where
      by_piece : (o : Option (ℕ × Piece)) → longest (b ∷ bs) ≡ o → ((inside : ℕ) → AllOn n (row_from (suc place) inside bs).tokens)
          → AllOn n (row_from place zero (b ∷ bs)).tokens
      by_piece None e rest =
          let same : row_from place zero (b ∷ bs) ≡ record { tokens = []; bad = Some place } = rw (e, row_from) refl in
          subst (λ (row : Row). AllOn n row.tokens) (sym same) tt
      by_piece (Some (size, gap)) e rest =
          let same : row_from place zero (b ∷ bs) ≡ row_from (suc place) (size - 1) bs = rw (e, row_from) refl in
          subst (λ (row : Row). AllOn n row.tokens) (sym same) (rest (size - 1))
      by_piece (Some (size, word w)) e rest =
          let same : row_from place zero (b ∷ bs) ≡ before_row (word w) place (place + size) (row_from (suc place) (size - 1) bs) = rw (e, row_from) refl in
          subst (λ (row : Row). AllOn n row.tokens) (sym same) (at place (omega arith) (omega arith), rest (size - 1))

  -- The places of a line have its number.
  within_line : (pre l tail : List ℕ) (s : ℕ) → text ≡ pre ++ (l ++ tail) → list_all no_line_end l ≡ true → length pre ≤ s
      → s ≤ length pre + length l → line_after (take s text) ≡ 1 + feeds pre
  within_line pre l tail s e all low high =
      let j : ℕ = s - length pre in
      let whole : s ≡ length pre + j = omega (arith, low) in
      let short : j ≤ length l = omega (arith, low, high) in
      let cut : take s text ≡ pre ++ take j l =
      ap (λ (bytes : List ℕ). take s bytes) e ∙ ap (λ (n : ℕ). take n (pre ++ (l ++ tail))) whole ∙ take-append-add pre (l ++ tail) j
      ∙ ap (λ (bytes : List ℕ). pre ++ bytes) (take-append-le j l tail short) in
      let none : feeds (take j l) ≡ 0 = no_feeds j l all in
      let sum : feeds (take s text) ≡ feeds pre + feeds (take j l) = ap feeds cut ∙ feeds_append pre (take j l) in
      omega (arith, sum, none)

  unless_on : (k n : ℕ) (ts : List Token) (others : List (List Token)) → k < n → AllOn n ts → Numbered n others
      → Numbered k (unless_empty ts ++ others)
  unless_on k n [] others less on rest = numbered_less k n others (omega (arith, less)) rest
  unless_on k n (t ∷ ts) others less on rest = numbered_next k n (t ∷ ts) others less on rest

  pub are_numbered : (pre : List ℕ) (ls : List (List ℕ)) (k : ℕ) → Lined ls → text ≡ pre ++ joined ls → k ≤ feeds pre
      → Numbered k (token_lines (rows_from (length pre) ls))
  are_numbered pre [] k lined_none e below = numbered_none k
  are_numbered pre (_ ∷ []) k (lined_last l all) e below =
      unless_on k (1 + feeds pre) (row_from (length pre) zero l).tokens [] (omega (arith, below))
      (row_on (1 + feeds pre) (length pre) zero l (λ s low high. within_line pre l [] s e all low (omega (arith, high))))
      (numbered_none (1 + feeds pre))
  are_numbered pre (_ ∷ _) k (lined_more l ls all rest) e below =
      let line : List ℕ = l ++ 10 ∷ [] in
      let size : length line ≡ length l + 1 = length-append l (10 ∷ []) in
      let split : text ≡ pre ++ (l ++ (10 ∷ joined ls)) = e ∙ ap (λ (r : List ℕ). pre ++ r) (append_assoc l (10 ∷ []) (joined ls)) in
      let more : text ≡ (pre ++ line) ++ joined ls = e ∙ sym (append_assoc pre line (joined ls)) in
      let none : feeds l ≡ 0 = ap feeds (sym (take-length l)) ∙ no_feeds (length l) l all in
      let fed : feeds (pre ++ line) ≡ feeds pre + 1 =
      feeds_append pre line ∙ ap (λ (n : ℕ). feeds pre + n) (feeds_append l (10 ∷ []) ∙ ap (λ (n : ℕ). n + 1) none) in
      let place : length pre + length line ≡ length (pre ++ line) = sym (length-append pre line) in
      let behind : Numbered (1 + feeds pre) (token_lines (rows_from (length (pre ++ line)) ls)) =
      are_numbered (pre ++ line) ls (1 + feeds pre) rest more (omega (arith, fed)) in
      unless_on k (1 + feeds pre) (row_from (length pre) zero line).tokens (token_lines (rows_from (length pre + length line) ls)) (omega (arith, below))
      (row_on (1 + feeds pre) (length pre) zero line
      (λ s low high. within_line pre l (10 ∷ joined ls) s split all low (omega (arith, high, size))))
      (subst (λ (p : ℕ). Numbered (1 + feeds pre) (token_lines (rows_from p ls))) (sym place) behind)

  -- The lines of tokens of the whole text.
  pub rows_numbered : Numbered 0 (token_lines (rows text))
  rows_numbered = are_numbered [] (lines text) 0 (are_lined text) (sym (are_joined text)) (omega arith)
