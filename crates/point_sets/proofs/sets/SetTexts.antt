-- The lines of a set are what the code writes name by name
use Rattle.std.proofs.Common.{◌≡◌, ℕ, ◌+◌, Bool, true, false, List, [], ◌∷◌, ◌++◌, map, flat_map, length, codes, refl, sym, ap, ◌∙◌}
use Rattle.std.proofs.Common.{append_assoc, append-nil, if◌then◌else◌}
use Rattle.std.proofs.lemmas.List.{length-append}
use Rattle.text_pieces.proofs.sinks.Escapes.{escaped-append}
use Rattle.text_pieces.specs.Strings.{escaped}
use Rattle.point_sets.specs.SetLines.{fits, lines_from, lines_if_any, set_lines, width}
use Rattle.point_sets.specs.code.Lines.{blank_line, ended, line_behind, names_on, set_from, with_name}
use Rattle.point_sets.specs.declared.lines.Line.{Line}

-- a line of a label
abbrev line_text : List ℕ → List ℕ
line_text line = escaped line ++ codes "\\l"

-- a line with names
abbrev with_names : ℕ → Line
with_names column = record { column = column; others = true }

others_end : (line : Line) (names : List (List ℕ)) → line.others ≡ true → ended (line_behind line names) ≡ []
others_end line [] is = ap (λ b. if b then [] else codes "-") is
others_end line (name ∷ names) is = others_end (with_name line name) names refl

-- a name more on the line
wider : (line name : List ℕ) → width (line ++ codes ", " ++ name) ≡ width line + 2 + length (escaped name)
wider line name =
    ap length (escaped-append (line ++ codes ", ") name ∙ ap (λ t. t ++ escaped name) (escaped-append line (codes ", ")))
    ∙ length-append (escaped line ++ codes ", ") (escaped name)
    ∙ ap (λ n. n + length (escaped name)) (length-append (escaped line) (codes ", "))

indented : (name : List ℕ) → width (codes "  " ++ name) ≡ 2 + length (escaped name)
indented name = ap length (escaped-append (codes "  ") name) ∙ length-append (codes "  ") (escaped name)

-- what is written of a name behind a line and of those behind it, on the line or on the next one
module _ (line name : List ℕ) (names : List (List ℕ)) where
  abbrev rest : ℕ → List ℕ
  rest column = names_on (with_names column) (map escaped names)

  abbrev whole : Bool → List ℕ
  whole b =
      (escaped line ++ ((if b then codes ", " ++ escaped name else codes ",\\l  " ++ escaped name)
      ++ rest (if b then width line + 2 + length (escaped name) else 2 + length (escaped name)))) ++ codes "\\l"

  abbrev parts : Bool → List (List ℕ)
  parts b = if b then lines_from (line ++ codes ", " ++ name) names else (line ++ codes ",") ∷ lines_from (codes "  " ++ name) names

  on_it : (escaped (line ++ codes ", " ++ name) ++ rest (width (line ++ codes ", " ++ name))) ++ codes "\\l" ≡ flat_map line_text (parts true)
      → whole true ≡ flat_map line_text (parts true)
  on_it next =
      let column : ℕ = width line + 2 + length (escaped name) in
      ap (λ t. t ++ codes "\\l") (sym (append_assoc (escaped line) (codes ", " ++ escaped name) (rest column)))
      ∙ ap (λ t. (t ++ rest column) ++ codes "\\l")
      (sym (escaped-append (line ++ codes ", ") name ∙ ap (λ t. t ++ escaped name) (escaped-append line (codes ", "))
      ∙ append_assoc (escaped line) (codes ", ") (escaped name)))
      ∙ ap (λ n. (escaped (line ++ codes ", " ++ name) ++ rest n) ++ codes "\\l") (sym (wider line name))
      ∙ next

  split : (a n r : List ℕ) → (a ++ ((codes ",\\l  " ++ n) ++ r)) ++ codes "\\l"
      ≡ ((a ++ codes ",") ++ codes "\\l") ++ (((codes "  " ++ n) ++ r) ++ codes "\\l")
  split a n r =
      let rest_of : List ℕ = ((codes "  " ++ n) ++ r) ++ codes "\\l" in
      append_assoc a ((codes ",\\l  " ++ n) ++ r) (codes "\\l")
      ∙ sym (append_assoc (a ++ codes ",") (codes "\\l") rest_of ∙ append_assoc a (codes ",") (codes "\\l" ++ rest_of))

  behind_it : (escaped (codes "  " ++ name) ++ rest (width (codes "  " ++ name))) ++ codes "\\l"
      ≡ flat_map line_text (lines_from (codes "  " ++ name) names) → whole false ≡ flat_map line_text (parts false)
  behind_it next =
      let column : ℕ = 2 + length (escaped name) in
      let first : List ℕ = line_text (line ++ codes ",") in
      split (escaped line) (escaped name) (rest column)
      ∙ ap (λ t. (t ++ codes "\\l") ++ (((codes "  " ++ escaped name) ++ rest column) ++ codes "\\l")) (sym (escaped-append line (codes ",")))
      ∙ ap (λ t. first ++ ((t ++ rest column) ++ codes "\\l")) (sym (escaped-append (codes "  ") name))
      ∙ ap (λ n. first ++ ((escaped (codes "  " ++ name) ++ rest n) ++ codes "\\l")) (sym (indented name))
      ∙ ap (λ t. first ++ t) next

  by_fit : (b : Bool) → fits (width line) (width name) ≡ b → whole b ≡ flat_map line_text (parts b)
      → whole (fits (width line) (width name)) ≡ flat_map line_text (parts (fits (width line) (width name)))
  by_fit b is same = ap whole is ∙ same ∙ sym (ap (λ t. flat_map line_text (parts t)) is)

lines_written : (line : List ℕ) (names : List (List ℕ))
    → escaped line ++ names_on (with_names (width line)) (map escaped names) ++ codes "\\l" ≡ flat_map line_text (lines_from line names)
lines_written line [] = ap (λ t. t ++ codes "\\l") (append-nil (escaped line)) ∙ sym (append-nil (line_text line))
lines_written line (name ∷ names) =
    by_test (fits (width line) (width name)) refl (λ l. lines_written l names)
  where
    by_test : (b : Bool) → fits (width line) (width name) ≡ b
        → ((l : List ℕ) → escaped l ++ names_on (with_names (width l)) (map escaped names) ++ codes "\\l" ≡ flat_map line_text (lines_from l names))
        → escaped line ++ names_on (with_names (width line)) (map escaped (name ∷ names)) ++ codes "\\l"
        ≡ flat_map line_text (lines_from line (name ∷ names))
    by_test true is next = by_fit line name names true is (on_it line name names (next (line ++ codes ", " ++ name)))
    by_test false is next = by_fit line name names false is (behind_it line name names (next (codes "  " ++ name)))

-- a set that has names, in lines behind a head
pub names_written : (head name : List ℕ) (names : List (List ℕ))
    → escaped head ++ names_on (blank_line (width head)) (map escaped (name ∷ names)) ++ codes "\\l"
    ≡ flat_map line_text (lines_if_any head (name ∷ names))
names_written head name names =
    let line : Line = with_names (width head + length (escaped name)) in
    ap (λ t. t ++ codes "\\l") (sym (append_assoc (escaped head) (escaped name) (names_on line (map escaped names))))
    ∙ ap (λ t. (t ++ names_on line (map escaped names)) ++ codes "\\l") (sym (escaped-append head name))
    ∙ ap (λ n. (escaped (head ++ name) ++ names_on (with_names n) (map escaped names)) ++ codes "\\l")
    (sym (ap length (escaped-append head name) ∙ length-append (escaped head) (escaped name)))
    ∙ lines_written (head ++ name) names

-- a set in lines, behind a head
pub set_written : (head : List ℕ) (names : List (List ℕ))
    → escaped head ++ set_from (width head) (map escaped names) ++ codes "\\l" ≡ flat_map line_text (set_lines head names)
set_written head [] = sym (append-nil (line_text (head ++ codes "-")) ∙ ap (λ t. t ++ codes "\\l") (escaped-append head (codes "-")))
set_written head (name ∷ names) =
    let line : Line = with_names (width head + length (escaped name)) in
    ap (λ t. escaped head ++ ((escaped name ++ names_on line (map escaped names)) ++ t) ++ codes "\\l") (others_end line (map escaped names) refl)
    ∙ ap (λ t. escaped head ++ t ++ codes "\\l") (append-nil (escaped name ++ names_on line (map escaped names)))
    ∙ names_written head name names
