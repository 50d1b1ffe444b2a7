-- The words that the bytes of a line are read as.
use Rattle.std.proofs.Common.{◌≡◌, ℕ, zero, suc, ◌+◌, inl, inr, Bool, true, false, cond, not, ◌&&◌, List, [], ◌∷◌, ◌++◌, length, take, map}
use Rattle.std.proofs.Common.{decimal, refl, sym, ap, ◌∙◌, subst, Option, Some, None, eqb, true≢false, one-add, append_assoc, if◌then◌else◌}
use Rattle.std.specs.List.{list_all, prefix_len}
use Rattle.std.proofs.Math.Seq.{drop-append_seam, take-append_seam}
use Rattle.std.proofs.lemmas.List.Folds.{list_all-append}
use Rattle.std.proofs.lemmas.Bool.{and_parts, not-true, or_parts}
use Rattle.std.proofs.lemmas.Option.{same_Some}
use Rattle.tac_lines.specs.Text.{no_line_end}
use Rattle.tac_lines.specs.Tokens.{Word, name, number, fixed, Piece, word, gap, Row, piece_of, picked, longest, before_row, row_from, is_number}
use Rattle.tac_lines.specs.Tokens.{is_blank, signs, name_or_keyword, number_piece}
use Rattle.tac_program.specs.Spelling.{is_letter, is_digit, is_name_byte, is_name, keywords, unary_signs}
use Rattle.tac_program.specs.Names.{is_one_of}
use Rattle.tac_program.specs.Sound.{IsLawfulName}
use Rattle.tac_lines.proofs.tokens.Longest.{first_fails, differs, letter_longest}
use Rattle.tac_lines.proofs.tokens.Pieces.{digit_longest, piece_of-other, one_longest, two_longest}
use Rattle.tac_lines.proofs.tokens.Places.{longest_front, word_no_end}
use Rattle.tac_lines.proofs.tokens.RowSteps.{row_some}
use Rattle.tac_reader.proofs.lines.FaultlessLines.{IsSoundWord}
use Rattle.tac_reader.proofs.programs.FaultlessStatements.{each_tested}
use Rattle.tac_lines.proofs.tokens.Decimals.{is_number_decimal, value_of_decimal}
use Rattle.tac_lines.proofs.tokens.Fronts.{space_at}

-- What the bytes from a line's beginning on are read as, wherever the line stands.
pub record ReadsAs (bytes : List ℕ) (ws : List Word) : Type 0 where
  pub words : (place : ℕ) → map (λ t. t.word) (row_from place 0 bytes).tokens ≡ ws
  pub whole : (place : ℕ) → (row_from place 0 bytes).bad ≡ None

abbrev with_piece : Piece → List Word → List Word
with_piece gap ws = ws
with_piece (word w) ws = w ∷ ws

reads_piece : (s rest : List ℕ) (p : Piece) (ws : List Word) → longest (s ++ rest) ≡ Some (length s, p) → ReadsAs rest ws
    → ReadsAs (s ++ rest) (with_piece p ws)
reads_piece s rest p ws e h = go p row where
  row : (place : ℕ) → row_from place zero (s ++ rest) ≡ before_row p place (place + length s) (row_from (place + length s) zero rest)
  row place =
      let front = longest_front (length (s ++ rest)) (s ++ rest) (length s, p) e in
      row_some place (length s) p (s ++ rest) e front.0 front.1
      ∙ ap (λ r. before_row p place (place + length s) (row_from (place + length s) zero r)) (drop-append_seam s rest)

  go : (q : Piece) → ((place : ℕ) → row_from place zero (s ++ rest) ≡ before_row q place (place + length s) (row_from (place + length s) zero rest))
      → ReadsAs (s ++ rest) (with_piece q ws)
  go gap f = record {
    words = λ place. ap (λ (r : Row). map (λ t. t.word) r.tokens) (f place) ∙ h.words (place + length s);
    whole = λ place. ap (λ (r : Row). r.bad) (f place) ∙ h.whole (place + length s);
  }
  go (word w) f = record {
    words = λ place. ap (λ (r : Row). map (λ t. t.word) r.tokens) (f place) ∙ ap (λ vs. w ∷ vs) (h.words (place + length s));
    whole = λ place. ap (λ (r : Row). r.bad) (f place) ∙ h.whole (place + length s);
  }

-- A run of bytes that pass a test, before one that does not.
run_stops : (p : ℕ → Bool) (t rest : List ℕ) → list_all p t ≡ true → first_fails p rest ≡ true → prefix_len p (t ++ rest) ≡ length t
run_stops p [] [] all fails = refl
run_stops p [] (c ∷ cs) all fails = ap (λ x. cond x (1 + prefix_len p cs) 0) (not-true (p c) fails)
run_stops p (b ∷ bs) rest all fails =
    let parts = and_parts (p b) (list_all p bs) all in
    ap (λ x. cond x (1 + prefix_len p (bs ++ rest)) 0) parts.0 ∙ ap (λ n. 1 + n) (run_stops p bs rest parts.1 fails) ∙ one-add (length bs)

name_longest : (s rest : List ℕ) → is_name s ≡ true → first_fails is_name_byte rest ≡ true → longest (s ++ rest) ≡ Some (length s, name_or_keyword s)
name_longest [] rest h fails = absurd (true≢false (sym h))
name_longest (b ∷ t) rest h fails =
    let parts = and_parts (is_letter b) (list_all is_name_byte t) h in
    letter_longest b (t ++ rest) parts.0
    ∙ ap (λ n. let o : Option (ℕ × Piece) = Some (suc n, name_or_keyword (b ∷ take n (t ++ rest))) in o) (run_stops is_name_byte t rest parts.1 fails)
    ∙ ap (λ u. let o : Option (ℕ × Piece) = Some (suc (length t), name_or_keyword (b ∷ u)) in o) (take-append_seam t rest)

number_longest : (s rest : List ℕ) → is_number s ≡ true → first_fails is_digit rest ≡ true → longest (s ++ rest) ≡ Some (length s, number_piece s)
number_longest [] rest h fails = absurd (true≢false (sym h))
number_longest (b ∷ t) rest h fails =
    let parts = and_parts (is_digit b) (list_all is_digit t) h in
    digit_longest b (t ++ rest) parts.0
    ∙ ap (λ n. let o : Option (ℕ × Piece) = Some (suc n, number_piece (b ∷ take n (t ++ rest))) in o) (run_stops is_digit t rest parts.1 fails)
    ∙ ap (λ u. let o : Option (ℕ × Piece) = Some (suc (length t), number_piece (b ∷ u)) in o) (take-append_seam t rest)

-- A sign that the byte behind it does not make longer.
abbrev begins_no_run : ℕ → Bool
begins_no_run b = not (is_letter b) && (not (is_digit b) && not (eqb b 35))

abbrev pub alone : ℕ → List ℕ → Bool
alone c [] = false
alone c (b ∷ []) = begins_no_run b && (not (is_one_of (b ∷ c ∷ []) signs) && not (is_blank (b ∷ c ∷ [])))
alone c (b ∷ d ∷ []) = begins_no_run b
alone c (b ∷ d ∷ e ∷ es) = false

sign_longest : (c : ℕ) (s rest : List ℕ) → alone c s ≡ true → is_one_of s signs ≡ true → longest (s ++ c ∷ rest) ≡ Some (length s, word (fixed s))
sign_longest c [] rest a h = absurd (true≢false (sym a))
sign_longest c (b ∷ []) rest a h =
    let outer = and_parts (begins_no_run b) (not (is_one_of (b ∷ c ∷ []) signs) && not (is_blank (b ∷ c ∷ []))) a in
    let first = and_parts (not (is_letter b)) (not (is_digit b) && not (eqb b 35)) outer.0 in
    let second = and_parts (not (is_digit b)) (not (eqb b 35)) first.1 in
    let pair = and_parts (not (is_one_of (b ∷ c ∷ []) signs)) (not (is_blank (b ∷ c ∷ []))) outer.1 in
    let letter = not-true (is_letter b) first.0 in
    let digit = not-true (is_digit b) second.0 in
    let hash = not-true (eqb b 35) second.1 in
    let none : piece_of (b ∷ c ∷ []) ≡ None =
    piece_of-other b letter digit hash (c ∷ [])
    ∙ (λ i. picked false false (not-true (is_one_of (b ∷ c ∷ []) signs) pair.0 i) (not-true (is_blank (b ∷ c ∷ [])) pair.1 i) (b ∷ c ∷ [])) in
    one_longest b letter digit hash (c ∷ rest) (word (fixed (b ∷ [])))
    (λ d k. subst (λ x. piece_of (b ∷ x ∷ []) ≡ None) (same_Some c d k) none)
    (piece_of-other b letter digit hash [] ∙ ap (λ t. picked false false t (is_blank (b ∷ [])) (b ∷ [])) h)
sign_longest c (b ∷ d ∷ []) rest a h =
    let first = and_parts (not (is_letter b)) (not (is_digit b) && not (eqb b 35)) a in
    let second = and_parts (not (is_digit b)) (not (eqb b 35)) first.1 in
    let letter = not-true (is_letter b) first.0 in
    let digit = not-true (is_digit b) second.0 in
    let hash = not-true (eqb b 35) second.1 in
    two_longest b letter digit hash d (c ∷ rest) (word (fixed (b ∷ d ∷ [])))
    (piece_of-other b letter digit hash (d ∷ []) ∙ ap (λ t. picked false false t (is_blank (b ∷ d ∷ [])) (b ∷ d ∷ [])) h)
sign_longest c (b ∷ d ∷ e ∷ es) rest a h = absurd (true≢false (sym a))

-- Bytes that part a word from what follows.
pub record Parts (c : ℕ) : Type 0 where
  pub no_name : is_name_byte c ≡ false
  pub no_sign : list_all (alone c) signs ≡ true

parts_blank : Parts 32
parts_blank = record { no_name = refl; no_sign = refl }

parts_end : Parts 10
parts_end = record { no_name = refl; no_sign = refl }

no_digit : (c : ℕ) → is_name_byte c ≡ false → is_digit c ≡ false
no_digit c h = (or_parts (is_letter c) (is_digit c) h).1

-- The bytes of a word, and that they read back as it.
abbrev pub spelled : Word → List ℕ
spelled (name s) = s
spelled (number n) = decimal n
spelled (fixed s) = s

named : (s : List ℕ) (b : Bool) → is_one_of s keywords ≡ b → name_or_keyword s ≡ word (if b then fixed s else name s)
named s b e = ap (λ t. word (if t then fixed s else name s)) e

name_before : (s rest : List ℕ) (c : ℕ) → is_name_byte c ≡ false → is_name s ≡ true → is_one_of s keywords ≡ false
    → longest (s ++ c ∷ rest) ≡ Some (length s, word (name s))
name_before s rest c part h k =
    name_longest s (c ∷ rest) h (ap not part) ∙ ap (λ p. let o : Option (ℕ × Piece) = Some (length s, p) in o) (named s false k)

word_before : (w : Word) (rest : List ℕ) (c : ℕ) → Parts c → IsSoundWord w → longest (spelled w ++ c ∷ rest) ≡ Some (length (spelled w), word w)
word_before (name s) rest c part h = name_before s rest c part.no_name h.spelled h.not_reserved
word_before (number n) rest c part h =
    number_longest (decimal n) (c ∷ rest) (is_number_decimal n h) (ap not (no_digit c part.no_name))
    ∙ ap (λ k. let o : Option (ℕ × Piece) = Some (length (decimal n), word (number k)) in o) (value_of_decimal n h)
word_before (fixed s) rest c part (inl h) =
    name_longest s (c ∷ rest) (each_tested is_name keywords s refl h) (ap not part.no_name)
    ∙ ap (λ p. let o : Option (ℕ × Piece) = Some (length s, p) in o) (named s true h)
word_before (fixed s) rest c part (inr h) = sign_longest c s rest (each_tested (alone c) signs s part.no_sign h) h

word_piece : (w : Word) → IsSoundWord w → piece_of (spelled w) ≡ Some (word w)
word_piece w h =
    let e = word_before w [] 10 parts_end h in
    let front = longest_front (length (spelled w ++ 10 ∷ [])) (spelled w ++ 10 ∷ []) (length (spelled w), word w) e in
    sym (ap piece_of (take-append_seam (spelled w) (10 ∷ []))) ∙ front.2

-- A line without its end: what it is read as.
pub record ReadsLine (line : List ℕ) (ws : List Word) : Type 0 where
  pub no_end : list_all no_line_end line ≡ true
  pub reads : ReadsAs (line ++ 10 ∷ []) ws

both_no_end : (xs ys : List ℕ) → list_all no_line_end xs ≡ true → list_all no_line_end ys ≡ true → list_all no_line_end (xs ++ ys) ≡ true
both_no_end xs ys h k = list_all-append no_line_end xs ys ∙ (λ i. h i && k i)

no_bytes : ReadsAs [] []
no_bytes = record { words = λ place. refl; whole = λ place. refl }

line_end : ReadsAs (10 ∷ []) []
line_end = reads_piece (10 ∷ []) [] gap [] refl no_bytes

pub line_none : ReadsLine [] []
line_none = record { no_end = refl; reads = line_end }

pub line_word : (w : Word) → IsSoundWord w → ReadsLine (spelled w) (w ∷ [])
line_word w h = record {
  no_end = word_no_end (spelled w) w (word_piece w h);
  reads = reads_piece (spelled w) (10 ∷ []) (word w) [] (word_before w [] 10 parts_end h) line_end;
}

pub line_blank : (line : List ℕ) (ws : List Word) → ReadsLine line ws → ReadsLine (32 ∷ line) ws
line_blank line ws h = record { no_end = h.no_end; reads = reads_piece (32 ∷ []) (line ++ 10 ∷ []) gap ws (space_at (line ++ 10 ∷ [])) h.reads }

pub line_more : (w : Word) (line : List ℕ) (ws : List Word) → IsSoundWord w → ReadsLine line ws → ReadsLine (spelled w ++ 32 ∷ line) (w ∷ ws)
line_more w line ws good h =
    let rest = line_blank line ws h in
    record {
      no_end = both_no_end (spelled w) (32 ∷ line) (word_no_end (spelled w) w (word_piece w good)) rest.no_end;
      reads = subst (λ bs. ReadsAs bs (w ∷ ws)) (sym (append_assoc (spelled w) (32 ∷ line) (10 ∷ [])))
          (reads_piece (spelled w) (32 ∷ line ++ 10 ∷ []) (word w) ws (word_before w (line ++ 10 ∷ []) 32 parts_blank good) rest.reads);
    }

-- A label: a name, and a sign directly behind it.
pub line_label : (s : List ℕ) → IsLawfulName s → ReadsLine (s ++ 58 ∷ []) (name s ∷ fixed (58 ∷ []) ∷ [])
line_label s h =
    let sign = line_word (fixed (58 ∷ [])) (inr refl) in
    record {
      no_end = both_no_end s (58 ∷ []) (word_no_end s (name s) (word_piece (name s) h)) sign.no_end;
      reads = subst (λ bs. ReadsAs bs (name s ∷ fixed (58 ∷ []) ∷ [])) (sym (append_assoc s (58 ∷ []) (10 ∷ [])))
          (reads_piece s (58 ∷ 10 ∷ []) (word (name s)) (fixed (58 ∷ []) ∷ []) (name_before s (10 ∷ []) 58 refl h.spelled h.not_reserved) sign.reads);
    }

-- A unary sign, directly before its operand.
abbrev pub starts_word : List ℕ → Bool
starts_word [] = false
starts_word (c ∷ cs) = is_name_byte c

unary_alone : (c : ℕ) → is_name_byte c ≡ true → list_all (alone c) unary_signs ≡ true
unary_alone c h = let e : eqb c 61 ≡ false = differs is_name_byte c 61 h refl in rw e refl

pub line_unary : (s line : List ℕ) (ws : List Word) → is_one_of s unary_signs ≡ true → starts_word line ≡ true → ReadsLine line ws
    → ReadsLine (s ++ line) (fixed s ∷ ws)
line_unary s [] ws h starts k = absurd (true≢false (sym starts))
line_unary s (c ∷ cs) ws h starts k =
    let sign : is_one_of s signs ≡ true = each_tested (λ t. is_one_of t signs) unary_signs s refl h in
    record {
      no_end = both_no_end s (c ∷ cs) (word_no_end s (fixed s) (word_piece (fixed s) (inr sign))) k.no_end;
      reads = subst (λ bs. ReadsAs bs (fixed s ∷ ws)) (sym (append_assoc s (c ∷ cs) (10 ∷ []))) (reads_piece s (c ∷ cs ++ 10 ∷ []) (word (fixed s)) ws
          (sign_longest c s (cs ++ 10 ∷ []) (each_tested (alone c) unary_signs s (unary_alone c starts) h) sign) k.reads);
    }
