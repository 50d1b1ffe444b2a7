-- A program has no more statements, labels and variables than its text has bytes.
use Rattle.std.proofs.Common.{◌≡◌, ℕ, zero, suc, ◌+◌, ◌-◌, ◌≤◌, Bool, true, false, not, cond, ◌||◌, List, [], ◌∷◌, ◌++◌, flat_map, fold, length, take}
use Rattle.std.proofs.Common.{refl, ap, ◌∙◌, arith, Option, Some, None, one-add, if◌then◌else◌, length-append, sum_by}
use Rattle.std.proofs.lemmas.List.{length-map}
use Rattle.std.proofs.lemmas.List.Sums.{sum_by-cons}
use Rattle.std.specs.List.{prefix_len, take_while}
use Rattle.tac_lines.specs.Text.{lines}
use Rattle.tac_lines.specs.Tokens.{Token, Piece, word, gap, Row, longest, before_row, row_from, rows_from, rows, token_lines, unless_empty}
use Rattle.tac_lines.specs.Tokens.{spelling_of}
use Rattle.tac_program.specs.Names.{is_one_of, noted}
use Rattle.tac_lines.specs.Forms.{Slot, has_form, proc_form, end_form, label_form, labels_of, behind_labels, paired, cells_of, in_slot, is_name_word}
use Rattle.tac_lines.specs.Forms.{statement_row, is_inner, is_variable}
use Rattle.tac_reader.specs.Sections.{Section, sections, sections_in, opened_by, statements_of, labels_in, only_name, variables_of}
use Rattle.tac_reader.specs.Parses.{names_in, variables_in}
use Rattle.tac_lines.specs.declared.form.Form.{Form}
use Rattle.tac_lines.proofs.lines.Lines.{lines_join}

-- A sum, from the first element on.
abbrev pub total : {A : Type 0} → (A → ℕ) → List A → ℕ
total f [] = 0
total f (x ∷ xs) = f x + total f xs

module _ {A : Type 0} (f : A → ℕ) where
  pub total_is : (xs : List A) → sum_by f xs ≡ total f xs
  total_is [] = refl
  total_is (x ∷ xs) = sum_by-cons f x xs ∙ ap (λ n. f x + n) (total_is xs)

  total-append : (xs ys : List A) → total f (xs ++ ys) ≡ total f xs + total f ys
  total-append [] ys = omega arith
  total-append (x ∷ xs) ys = omega (arith, total-append xs ys)

  total_le : (g : A → ℕ) → ((x : A) → f x ≤ g x) → (xs : List A) → total f xs ≤ total g xs
  total_le g le [] = omega arith
  total_le g le (x ∷ xs) = omega (arith, le x, total_le g le xs)

  total-flat_map : {B : Type 0} (g : B → List A) (bs : List B) → total f (flat_map g bs) ≡ total (λ b. total f (g b)) bs
  total-flat_map g [] = refl
  total-flat_map g (b ∷ bs) = omega (arith, total-append (g b) (flat_map g bs), total-flat_map g bs)

length_of_parts : {A B : Type 0} (g : B → List A) (bs : List B) → length (flat_map g bs) ≡ total (λ b. length (g b)) bs
length_of_parts g [] = refl
length_of_parts g (b ∷ bs) = omega (arith, length-append (g b) (flat_map g bs), length_of_parts g bs)

abbrev all_tokens : List (List Token) → ℕ
all_tokens ls = total length ls

-- Each byte begins at most one token.
before_one : (p : Piece) (start stop : ℕ) (row : Row) → length (before_row p start stop row).tokens ≤ suc (length row.tokens)
before_one gap start stop row = omega arith
before_one (word w) start stop row = omega arith

row_tokens : (place inside : ℕ) (bytes : List ℕ) → length (row_from place inside bytes).tokens ≤ length bytes
row_tokens place inside [] = omega arith
row_tokens place (suc inside) (b ∷ bs) = let rest = row_tokens (suc place) inside bs in omega (arith, rest)
row_tokens place zero (b ∷ bs) = go (longest (b ∷ bs)) (λ n. row_tokens (suc place) n bs) where
  go : (o : Option (ℕ × Piece)) → ((n : ℕ) → length (row_from (suc place) n bs).tokens ≤ length bs) → length (elim o as (λ _. Row) [
    | None ↦ record { tokens = []; bad = Some place }
    | Some found ↦ before_row found.1 place (place + found.0) (row_from (suc place) (found.0 - 1) bs)
  ]).tokens ≤ suc (length bs)
  go None rest = omega arith
  go (Some found) rest = omega (arith, before_one found.1 place (place + found.0) (row_from (suc place) (found.0 - 1) bs), rest (found.0 - 1))

rows_tokens : (place : ℕ) (ls : List (List ℕ)) → total (λ row. length row.tokens) (rows_from place ls) ≤ length (flat_map (λ l. l) ls)
rows_tokens place [] = omega arith
rows_tokens place (l ∷ ls) = omega (arith, row_tokens place zero l, rows_tokens (place + length l) ls, length-append l (flat_map (λ x. x) ls))

kept_tokens : (ts : List Token) → all_tokens (unless_empty ts) ≡ length ts
kept_tokens [] = refl
kept_tokens (t ∷ ts) = omega arith

text_tokens : (text : List ℕ) → all_tokens (token_lines (rows text)) ≤ length text
text_tokens text =
    let joined : length (flat_map (λ l. l) (lines text)) ≡ length text = ap length (lines_join text) in
    let kept = total-flat_map length (λ row. unless_empty row.tokens) (rows text) in
    let each = total_le (λ row. all_tokens (unless_empty row.tokens)) (λ row. length row.tokens) (λ row. omega (arith, kept_tokens row.tokens))
    (rows text) in
    omega (arith, joined, kept, each, rows_tokens 0 (lines text))

-- No line stands in two procedures.
abbrev bodies : List Section → ℕ
bodies ss = total (λ s. all_tokens s.body) ss

opened_tokens : (line : List Token) (others : List (List Token)) → bodies (opened_by line others) ≤ all_tokens (take_while is_inner others)
opened_tokens [] others = omega arith
opened_tokens (t ∷ []) others = omega arith
opened_tokens (t ∷ u ∷ ts) others = omega arith

section_tokens : (ls : List (List Token)) → bodies (sections_in ls) + all_tokens (take_while is_inner ls) ≤ all_tokens ls
section_tokens [] = omega arith
section_tokens (line ∷ others) = by_test (has_form proc_form line) (has_form end_form line) (section_tokens others) where
  by_test : (a b : Bool) → bodies (sections_in others) + all_tokens (take_while is_inner others) ≤ all_tokens others
      → bodies ((if a then opened_by line others else []) ++ sections_in others) + all_tokens
      (take (cond (not (a || b)) (1 + prefix_len is_inner others) 0) (line ∷ others)) ≤ length line + all_tokens others
  by_test true b before =
      omega (arith, before, total-append (λ s. all_tokens s.body) (opened_by line others) (sections_in others), opened_tokens line others)
  by_test false true before = omega (arith, before)
  by_test false false before = rw one-add (omega (arith, before))

-- A line's labels and statement are tokens of it, and each statement has some.
line_parts : (line : List Token) → length (labels_of line) + length (behind_labels line) ≤ length line
line_parts [] = omega arith
line_parts (t ∷ []) = omega arith
line_parts (t ∷ u ∷ ts) = by_test (has_form label_form (t ∷ u ∷ [])) (line_parts ts) where
  by_test : (b : Bool) → length (labels_of ts) + length (behind_labels ts) ≤ length ts
      → length (if b then t ∷ labels_of ts else []) + length (if b then behind_labels ts else t ∷ u ∷ ts) ≤ suc (suc (length ts))
  by_test true before = omega (arith, before)
  by_test false before = omega arith

some_tokens : (ts : List Token) → length (unless_empty ts) ≤ length ts
some_tokens [] = omega arith
some_tokens (t ∷ ts) = omega arith

body_statements : (body : List (List Token)) → length (statements_of body) ≤ all_tokens body
body_statements [] = omega arith
body_statements (line ∷ others) = omega (
  arith,
  length-append (unless_empty (behind_labels line)) (statements_of others),
  some_tokens (behind_labels line),
  line_parts line,
  body_statements others,
)

body_labels : (body : List (List Token)) → length (flat_map labels_of body) ≤ all_tokens body
body_labels [] = omega arith
body_labels (line ∷ others) = omega (arith, length-append (labels_of line) (flat_map labels_of others), line_parts line, body_labels others)

body_tokens : (body : List (List Token)) → all_tokens (statements_of body) ≤ all_tokens body
body_tokens [] = omega arith
body_tokens (line ∷ others) = omega (
  arith,
  total-append length (unless_empty (behind_labels line)) (statements_of others),
  kept_tokens (behind_labels line),
  line_parts line,
  body_tokens others,
)

-- A statement's variables are tokens of it.
cells_few : (test : Slot → Bool) (slots : List Slot) (ts : List Token) → length (in_slot test (paired slots ts)) ≤ length ts
cells_few test [] ts = omega arith
cells_few test (s ∷ ss) [] = omega arith
cells_few test (s ∷ ss) (t ∷ ts) = by_test (test s) (cells_few test ss ts) where
  by_test : (b : Bool) → length (in_slot test (paired ss ts)) ≤ length ts
      → length (if b then t ∷ in_slot test (paired ss ts) else in_slot test (paired ss ts)) ≤ suc (length ts)
  by_test true h = omega (arith, h)
  by_test false h = omega (arith, h)

statement_cells_few : (test : Slot → Bool) (ts : List Token) → length (in_slot test (cells_of ts)) ≤ length ts
statement_cells_few test ts = go (statement_row ts) where
  go : (o : Option (Form × List Slot))
      → length (in_slot test (elim o as (λ _. List (Slot × Token)) [ None ↦ [] | Some row ↦ paired row.1 ts ])) ≤ length ts
  go None = omega arith
  go (Some row) = cells_few test row.1 ts

only_names_few : (ts : List Token) → length (flat_map only_name ts) ≤ length ts
only_names_few [] = omega arith
only_names_few (t ∷ ts) = by_test (is_name_word t.word) (only_names_few ts) where
  by_test : (b : Bool) → length (flat_map only_name ts) ≤ length ts → length ((if b then t ∷ [] else []) ++ flat_map only_name ts) ≤ suc (length ts)
  by_test true h = omega (arith, h)
  by_test false h = omega (arith, h)

variables_few : (ts : List Token) → length (variables_of ts) ≤ length ts
variables_few ts = omega (arith, only_names_few (in_slot is_variable (cells_of ts)), statement_cells_few is_variable ts)

noted_few : (known names : List (List ℕ)) → length (fold noted known names) ≤ length known + length names
noted_few known [] = omega arith
noted_few known (x ∷ xs) = omega (arith, noted_few (noted known x) xs, one (is_one_of x known)) where
  one : (b : Bool) → length (if b then known else known ++ x ∷ []) ≤ suc (length known)
  one true = omega arith
  one false = omega (arith, length-append known (x ∷ []))

-- What the sections of a text hold.
pub record AreFew (bound : ℕ) (ss : List Section) : Type 0 where
  pub statements : total (λ s. length (statements_of s.body)) ss ≤ bound
  pub labels : total (λ s. length (labels_in s)) ss ≤ bound
  pub variables : length (variables_in ss) ≤ bound

section_variables : (s : Section) → length (flat_map variables_of (statements_of s.body)) ≤ all_tokens s.body
section_variables s =
    omega (
      arith,
      length_of_parts variables_of (statements_of s.body),
      total_le (λ ts. length (variables_of ts)) length variables_few (statements_of s.body),
      body_tokens s.body,
    )

pub sections_few : (text : List ℕ) → AreFew (length text) (sections text)
sections_few text =
    let ss = sections text in
    let all : bodies ss ≤ length text = omega (arith, section_tokens (token_lines (rows text)), text_tokens text) in
    let tokens = flat_map (λ s. flat_map variables_of (statements_of s.body)) ss in
    record {
      statements = omega (arith, all, total_le (λ s. length (statements_of s.body)) (λ s. all_tokens s.body) (λ s. body_statements s.body) ss);
      labels = omega (arith, all, total_le (λ s. length (labels_in s)) (λ s. all_tokens s.body) (λ s. body_labels s.body) ss);
      variables = omega (
        arith,
        all,
        noted_few [] (names_in tokens),
        length-map tokens spelling_of,
        length_of_parts (λ s. flat_map variables_of (statements_of s.body)) ss,
        total_le (λ s. length (flat_map variables_of (statements_of s.body))) (λ s. all_tokens s.body) section_variables ss,
      );
    }
