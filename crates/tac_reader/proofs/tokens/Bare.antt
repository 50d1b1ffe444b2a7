-- What is said of tokens goes by their words alone: it is the same of the tokens without their places.
use Rattle.std.proofs.Common.{◌≡◌, ℕ, ◌+◌, Bool, true, false, cond, not, ◌&&◌, ◌||◌, List, [], ◌∷◌, ◌++◌, length, take, map, flat_map, refl, sym, ap}
use Rattle.std.proofs.Common.{◌∙◌, Option, Some, None, find, if◌then◌else◌}
use Rattle.std.specs.List.{prefix_len}
use Rattle.std.proofs.lemmas.List.{map-append, take-map}
use Rattle.tac_lines.specs.Tokens.{Word, Token, unless_empty, spelling_of}
use Rattle.tac_lines.specs.Forms.{Slot, fills, has_form, proc_form, end_form, label_form, statements, statement_row, labels_of, behind_labels, paired}
use Rattle.tac_lines.specs.Forms.{cells_of, in_slot, is_name_word, is_inner, is_variable, is_callee, is_label, callees_of, jumps_of}
use Rattle.tac_reader.specs.Sections.{Section, opened_by, sections_in, statements_of, only_name, variables_of}
use Rattle.tac_reader.specs.Parses.{form_of, label_places, names_in}
use Rattle.tac_lines.specs.declared.form.Form.{Form}
use Rattle.tac_lines.specs.declared.form.Form.TheVariants as form
use Rattle.tac_lines.proofs.forms.CalleeCounts.{row_cells}

-- A token without its places.
abbrev pub bare : Word → Token
bare w = record { word = w; start = 0; stop = 0 }

abbrev pub erased : Token → Token
erased t = bare t.word

abbrev pub words_of : List Token → List Word
words_of ts = map (λ t. t.word) ts

abbrev pub all_erased : List Token → List Token
all_erased ts = map erased ts

pub erased_words : (ts : List Token) → all_erased ts ≡ map bare (words_of ts)
erased_words [] = refl
erased_words (t ∷ ts) = ap (λ r. erased t ∷ r) (erased_words ts)

pub words_erased : (ts : List Token) → words_of (all_erased ts) ≡ words_of ts
words_erased [] = refl
words_erased (t ∷ ts) = ap (λ r. t.word ∷ r) (words_erased ts)

pub names_erased : (ts : List Token) → names_in (all_erased ts) ≡ names_in ts
names_erased [] = refl
names_erased (t ∷ ts) = ap (λ r. spelling_of t ∷ r) (names_erased ts)

-- Forms.
pub has_form-erased : (slots : List Slot) (ts : List Token) → has_form slots (all_erased ts) ≡ has_form slots ts
has_form-erased [] [] = refl
has_form-erased [] (t ∷ ts) = refl
has_form-erased (s ∷ slots) [] = refl
has_form-erased (s ∷ slots) (t ∷ ts) = ap (λ b. fills s t.word && b) (has_form-erased slots ts)

pub statement_row-erased : (ts : List Token) → statement_row (all_erased ts) ≡ statement_row ts
statement_row-erased ts = λ i. find (λ row. has_form-erased row.1 ts i) statements

pub form_of-erased : (ts : List Token) → form_of (all_erased ts) ≡ form_of ts
form_of-erased ts = ap (λ o. elim o as (λ _. Form) [ None ↦ form.Skip | Some row ↦ row.0 ]) (statement_row-erased ts)

-- Labels, and what stands behind them.
pub labels_of-erased : (ts : List Token) → labels_of (all_erased ts) ≡ all_erased (labels_of ts)
labels_of-erased [] = refl
labels_of-erased (t ∷ []) = refl
labels_of-erased (t ∷ u ∷ ts) = by_test (has_form label_form (t ∷ u ∷ [])) (labels_of-erased ts) where
  by_test : (b : Bool) → labels_of (all_erased ts) ≡ all_erased (labels_of ts)
      → (if b then erased t ∷ labels_of (all_erased ts) else []) ≡ all_erased (if b then t ∷ labels_of ts else [])
  by_test true e = ap (λ r. erased t ∷ r) e
  by_test false e = refl

pub behind-erased : (ts : List Token) → behind_labels (all_erased ts) ≡ all_erased (behind_labels ts)
behind-erased [] = refl
behind-erased (t ∷ []) = refl
behind-erased (t ∷ u ∷ ts) = by_test (has_form label_form (t ∷ u ∷ [])) (behind-erased ts) where
  by_test : (b : Bool) → behind_labels (all_erased ts) ≡ all_erased (behind_labels ts)
      → (if b then behind_labels (all_erased ts) else erased t ∷ erased u ∷ all_erased ts) ≡ all_erased (if b then behind_labels ts else t ∷ u ∷ ts)
  by_test true e = e
  by_test false e = refl

-- The tokens in the places of a statement.
paired-erased : (slots : List Slot) (ts : List Token) (test : Slot → Bool)
    → in_slot test (paired slots (all_erased ts)) ≡ all_erased (in_slot test (paired slots ts))
paired-erased [] ts test = refl
paired-erased (s ∷ slots) [] test = refl
paired-erased (s ∷ slots) (t ∷ ts) test = by_test (test s) (paired-erased slots ts test) where
  by_test : (b : Bool) → in_slot test (paired slots (all_erased ts)) ≡ all_erased (in_slot test (paired slots ts))
      → (if b then erased t ∷ in_slot test (paired slots (all_erased ts)) else in_slot test (paired slots (all_erased ts)))
      ≡ all_erased (if b then t ∷ in_slot test (paired slots ts) else in_slot test (paired slots ts))
  by_test true e = ap (λ r. erased t ∷ r) e
  by_test false e = e

cells-erased : (ts : List Token) (test : Slot → Bool) (o : Option (Form × List Slot))
    → in_slot test (row_cells (all_erased ts) o) ≡ all_erased (in_slot test (row_cells ts o))
cells-erased ts test None = refl
cells-erased ts test (Some row) = paired-erased row.1 ts test

in_slot-erased : (ts : List Token) (test : Slot → Bool) → in_slot test (cells_of (all_erased ts)) ≡ all_erased (in_slot test (cells_of ts))
in_slot-erased ts test = ap (λ o. in_slot test (row_cells (all_erased ts) o)) (statement_row-erased ts) ∙ cells-erased ts test (statement_row ts)

pub callees-erased : (ts : List Token) → callees_of (all_erased ts) ≡ all_erased (callees_of ts)
callees-erased ts = in_slot-erased ts is_callee

pub jumps-erased : (ts : List Token) → jumps_of (all_erased ts) ≡ all_erased (jumps_of ts)
jumps-erased ts = in_slot-erased ts is_label

only_names-erased : (ts : List Token) → flat_map only_name (all_erased ts) ≡ all_erased (flat_map only_name ts)
only_names-erased [] = refl
only_names-erased (t ∷ ts) = by_test (is_name_word t.word) (only_names-erased ts) where
  by_test : (b : Bool) → flat_map only_name (all_erased ts) ≡ all_erased (flat_map only_name ts)
      → (if b then erased t ∷ [] else []) ++ flat_map only_name (all_erased ts) ≡ all_erased ((if b then t ∷ [] else []) ++ flat_map only_name ts)
  by_test true e = ap (λ r. erased t ∷ r) e
  by_test false e = e

pub variables-erased : (ts : List Token) → variables_of (all_erased ts) ≡ all_erased (variables_of ts)
variables-erased ts = ap (flat_map only_name) (in_slot-erased ts is_variable) ∙ only_names-erased (in_slot is_variable (cells_of ts))

-- Lines.
unless_empty-erased : (ts : List Token) → unless_empty (all_erased ts) ≡ map all_erased (unless_empty ts)
unless_empty-erased [] = refl
unless_empty-erased (t ∷ ts) = refl

pub statements_of-erased : (body : List (List Token)) → statements_of (map all_erased body) ≡ map all_erased (statements_of body)
statements_of-erased [] = refl
statements_of-erased (line ∷ others) =
    (λ i. (ap unless_empty (behind-erased line) ∙ unless_empty-erased (behind_labels line)) i ++ statements_of-erased others i)
    ∙ sym (map-append all_erased (unless_empty (behind_labels line)) (statements_of others))

pub labels_in-erased : (body : List (List Token)) → flat_map labels_of (map all_erased body) ≡ all_erased (flat_map labels_of body)
labels_in-erased [] = refl
labels_in-erased (line ∷ others) =
    (λ i. labels_of-erased line i ++ labels_in-erased others i) ∙ sym (map-append erased (labels_of line) (flat_map labels_of others))

length-unless : (ts : List Token) → length (unless_empty (all_erased ts)) ≡ length (unless_empty ts)
length-unless [] = refl
length-unless (t ∷ ts) = refl

map-const : (place : ℕ) (ts : List Token) → map (λ t. place) (all_erased ts) ≡ map (λ (t : Token). place) ts
map-const place [] = refl
map-const place (t ∷ ts) = ap (λ r. place ∷ r) (map-const place ts)

pub label_places-erased : (place : ℕ) (body : List (List Token)) → label_places place (map all_erased body) ≡ label_places place body
label_places-erased place [] = refl
label_places-erased place (line ∷ others) =
    (λ i. (ap (map (λ t. place)) (labels_of-erased line) ∙ map-const place (labels_of line)) i ++ label_places
    (place + (ap (λ r. length (unless_empty r)) (behind-erased line) ∙ length-unless (behind_labels line)) i) (map all_erased others))
    ∙ ap (λ r. map (λ t. place) (labels_of line) ++ r) (label_places-erased (place + length (unless_empty (behind_labels line))) others)

-- Sections.
abbrev pub erased_section : Section → Section
erased_section s = record { title = erased s.title; body = map all_erased s.body }

is_inner-erased : (line : List Token) → is_inner (all_erased line) ≡ is_inner line
is_inner-erased line = λ i. not (has_form-erased proc_form line i || has_form-erased end_form line i)

inner_run : (ls : List (List Token)) → prefix_len is_inner (map all_erased ls) ≡ prefix_len is_inner ls
inner_run [] = refl
inner_run (l ∷ ls) = λ i. cond (is_inner-erased l i) (1 + inner_run ls i) 0

opened-erased : (line : List Token) (others : List (List Token))
    → opened_by (all_erased line) (map all_erased others) ≡ map erased_section (opened_by line others)
opened-erased [] others = refl
opened-erased (t ∷ []) others = refl
opened-erased (t ∷ u ∷ ts) others =
    ap (λ b. let r : List Section = record { title = erased u; body = b } ∷ [] in r)
    (ap (λ n. take n (map all_erased others)) (inner_run others) ∙ take-map all_erased (prefix_len is_inner others) others)

pub sections_in-erased : (ls : List (List Token)) → sections_in (map all_erased ls) ≡ map erased_section (sections_in ls)
sections_in-erased [] = refl
sections_in-erased (line ∷ others) =
    (λ i. (if has_form-erased proc_form line i then opened-erased line others i else []) ++ sections_in-erased others i)
    ∙ by_test (has_form proc_form line)
  where
    by_test : (b : Bool) → (if b then map erased_section (opened_by line others) else [])
        ++ map erased_section (sections_in others) ≡ map erased_section ((if b then opened_by line others else []) ++ sections_in others)
    by_test true = sym (map-append erased_section (opened_by line others) (sections_in others))
    by_test false = refl
