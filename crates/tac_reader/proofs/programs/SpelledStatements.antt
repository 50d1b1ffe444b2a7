-- The bytes of a statement's span have its tokens and nothing else.
use Rattle.std.proofs.Common.{◌≡◌, ℕ, zero, suc, ◌+◌, ◌-◌, ◌≤◌, Bool, true, false, List, [], ◌∷◌, ◌++◌, length, take, drop, flat_map, refl, sym, ap}
use Rattle.std.proofs.Common.{◌∙◌, subst, arith, Option, Some, None, All, if◌then◌else◌, slice_range}
use Rattle.std.specs.List.{AllByRecursion as Each, prefix_len}
use Rattle.std.proofs.lemmas.List.{take-append-le}
use Rattle.std.proofs.lemmas.List.Elements.{All-from_recursion}
use Rattle.tac_lines.specs.Text.{lines}
use Rattle.tac_lines.specs.Tokens.{Piece, word, gap, Token, Row, longest, before_row, row_from, rows_from, rows, stop_of, unless_empty, token_lines}
use Rattle.tac_lines.specs.Forms.{has_form, proc_form, label_form, behind_labels, is_inner}
use Rattle.tac_reader.specs.Sections.{Section, opened_by, sections_in, sections, statements_of}
use Rattle.tac_reader.specs.Parses.{start_of}
use Rattle.tac_reader.specs.Laws.{StatementsAreSpelled}
use Rattle.tac_lines.proofs.tokens.Places.{EachToken, StandsIn, row_in, ends_line}
use Rattle.tac_lines.proofs.lines.Lines.{lines_join}
use Rattle.tac_program.proofs.lists.Elements.{each-append, each-take, each-weaker, each-flat_map}
use Rattle.tac_lines.proofs.tokens.SpelledTokens.{drop_next, drop_past}
use Rattle.tac_lines.proofs.tokens.CutRows.{end_of, IsCut, row_cut}
use Rattle.tac_lines.proofs.tokens.RowSteps.{row_choice}

-- A fact of each end of a list of tokens that has some.
abbrev EachTail : (List Token → Type 0) → List Token → Type 0
EachTail P [] = Unit {0}
EachTail P (t ∷ ts) = P (t ∷ ts) × EachTail P ts

abbrev IsAlone : List ℕ → List Token → Type 0
IsAlone text ts = row_from (start_of ts) 0 (slice_range text (start_of ts) (stop_of ts)) ≡ record { tokens = ts; bad = None }

end_below : (low high p : ℕ) (ended : Bool) (ts : List Token) → EachToken (StandsIn low high ended) ts → p ≤ high → end_of p ts ≤ high
end_below low high p ended [] h l = l
end_below low high p ended (t ∷ ts) h l = end_below low high t.stop ended ts h.1 (h.0).to

stop_end : (t : Token) (ts : List Token) → stop_of (t ∷ ts) ≡ end_of t.stop ts
stop_end t [] = refl
stop_end t (u ∷ us) = stop_end u us

module _ (text after : List ℕ) where
  alone : (place : ℕ) (bs : List ℕ) (t : Token) (ts : List Token) (bad : Option ℕ) → drop place text ≡ bs ++ after → place ≡ t.start
      → row_from place zero bs ≡ record { tokens = t ∷ ts; bad = bad } → IsAlone text (t ∷ ts)
  alone place bs t ts bad e start row =
      let high : ℕ = place + length bs in
      let stands : EachToken (StandsIn place high (ends_line bs)) (t ∷ ts) =
      subst (λ r. EachToken (StandsIn place high (ends_line bs)) r.tokens) row (row_in place zero high bs refl).tokens in
      let below : end_of t.stop ts ≤ high = end_below place high t.stop (ends_line bs) ts stands.1 (stands.0).to in
      let cut : IsCut place bs (record { tokens = t ∷ ts; bad = bad }) = subst (IsCut place bs) row (row_cut (length bs) place bs (omega arith)) in
      let range : slice_range text place (end_of t.stop ts) ≡ take (end_of t.stop ts - place) bs =
      ap (take (end_of t.stop ts - place)) e ∙ take-append-le (end_of t.stop ts - place) bs after (omega (arith, below)) in
      (λ i. row_from (sym start i) 0 (slice_range text (sym start i) (stop_end t ts i))) ∙ ap (row_from place 0) range ∙ cut

  row_tails : (place inside : ℕ) (bs : List ℕ) → drop place text ≡ bs ++ after → EachTail (IsAlone text) (row_from place inside bs).tokens
  row_tails place inside [] e = tt
  row_tails place (suc inside) (b ∷ bs) e = row_tails (suc place) inside bs (drop_next place text (bs ++ after) b e)
  row_tails place zero (b ∷ bs) e = go (longest (b ∷ bs)) refl (λ n. row_tails (suc place) n bs (drop_next place text (bs ++ after) b e)) where
    first : (n : ℕ) (p : Piece) (row : Row) → row_from place zero (b ∷ bs) ≡ before_row p place (place + n) row → EachTail (IsAlone text) row.tokens
        → EachTail (IsAlone text) (before_row p place (place + n) row).tokens
    first n gap row k r = r
    first n (word w) row k r = (alone place (b ∷ bs) (record { word = w; start = place; stop = place + n }) row.tokens row.bad e refl k, r)

    go : (o : Option (ℕ × Piece)) → longest (b ∷ bs) ≡ o → ((n : ℕ) → EachTail (IsAlone text) (row_from (suc place) n bs).tokens)
        → EachTail (IsAlone text) (row_choice place bs (longest (b ∷ bs))).tokens
    go None k later = subst (λ o. EachTail (IsAlone text) (row_choice place bs o).tokens) (sym k) tt
    go (Some found) k later =
        subst (λ o. EachTail (IsAlone text) (row_choice place bs o).tokens) (sym k)
        (first found.0 found.1 (row_from (suc place) (found.0 - 1) bs) (ap (row_choice place bs) k) (later (found.0 - 1)))

rows_tails : (text : List ℕ) (place : ℕ) (ls : List (List ℕ)) → drop place text ≡ flat_map (λ l. l) ls
    → Each (λ row. EachTail (IsAlone text) row.tokens) (rows_from place ls)
rows_tails text place [] e = tt
rows_tails text place (l ∷ ls) e =
    (row_tails text (flat_map (λ x. x) ls) place zero l e, rows_tails text (place + length l) ls (drop_past text l (flat_map (λ x. x) ls) place e))

-- From each line to each line of each procedure, and to each statement.
module _ (P : List Token → Type 0) where
  some_tail : (ts : List Token) → EachTail P ts → Each P (unless_empty ts)
  some_tail [] h = tt
  some_tail (t ∷ ts) h = (h.0, tt)

  some_line : (ts : List Token) → EachTail P ts → Each (EachTail P) (unless_empty ts)
  some_line [] h = tt
  some_line (t ∷ ts) h = (h, tt)

  behind_tail : (ts : List Token) → EachTail P ts → EachTail P (behind_labels ts)
  behind_tail [] h = tt
  behind_tail (t ∷ []) h = h
  behind_tail (t ∷ u ∷ ts) h = by_test (has_form label_form (t ∷ u ∷ [])) (behind_tail ts h.1.1) where
    by_test : (b : Bool) → EachTail P (behind_labels ts) → EachTail P (if b then behind_labels ts else t ∷ u ∷ ts)
    by_test true k = k
    by_test false k = h

  opened_tails : (line : List Token) (others : List (List Token)) → Each (EachTail P) others
      → Each (λ s. Each (EachTail P) s.body) (opened_by line others)
  opened_tails [] others h = tt
  opened_tails (t ∷ []) others h = tt
  opened_tails (t ∷ u ∷ ts) others h = (each-take (EachTail P) (prefix_len is_inner others) others h, tt)

  section_tails : (ls : List (List Token)) → Each (EachTail P) ls → Each (λ s. Each (EachTail P) s.body) (sections_in ls)
  section_tails [] h = tt
  section_tails (line ∷ others) h =
      each-append (λ s. Each (EachTail P) s.body) (if has_form proc_form line then opened_by line others else []) (sections_in others)
      (by_test (has_form proc_form line)) (section_tails others h.1)
    where
      by_test : (b : Bool) → Each (λ s. Each (EachTail P) s.body) (if b then opened_by line others else [])
      by_test true = opened_tails line others h.1
      by_test false = tt

pub statements_are_spelled : StatementsAreSpelled
statements_are_spelled text =
    let P : List Token → Type 0 = IsAlone text in
    let each_row = rows_tails text 0 (lines text) (sym (lines_join text)) in
    let each_line : Each (EachTail P) (token_lines (rows text)) =
    each-flat_map (EachTail P) (λ row. unless_empty row.tokens) (rows text) (each-weaker (λ (row : Row). EachTail P row.tokens) (λ row.
    Each (EachTail P) (unless_empty row.tokens)) (λ row. some_line P row.tokens) (rows text) each_row) in
    All-from_recursion (λ s. All P (statements_of s.body)) (sections text)
    (each-weaker (λ (s : Section). Each (EachTail P) s.body) (λ s. All P (statements_of s.body))
    (λ s h. All-from_recursion P (statements_of s.body)
    (each-flat_map P (λ line. unless_empty (behind_labels line)) s.body (each-weaker (EachTail P) (λ line.
    Each P (unless_empty (behind_labels line))) (λ line k. some_tail P (behind_labels line) (behind_tail P line k)) s.body h)))
    (sections text) (section_tails P (token_lines (rows text)) each_line))
