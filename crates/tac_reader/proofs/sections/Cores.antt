-- What a program has of a section: nothing of it goes by the places of tokens or by how lines part the labels.
use Rattle.std.proofs.Common.{◌≡◌, ℕ, suc, List, [], ◌∷◌, ◌++◌, map, flat_map, refl, sym, ap, ◌∙◌}
use Rattle.std.proofs.lemmas.List.{map-append}
use Rattle.tac_lines.specs.Tokens.{Token, spelling_of}
use Rattle.tac_reader.specs.Sections.{Section, sections_in, statements_of, labels_in, variables_of, titles}
use Rattle.tac_lines.specs.Forms.{callees_of}
use Rattle.tac_program.specs.Programs.{number_of}
use Rattle.tac_reader.specs.Parses.{names_in, kind_of, form_of, statement_of, label_places, labels_from, procedure_of, procedures_from, variables_in}
use Rattle.tac_reader.specs.Parses.{each_once}
use Rattle.tac_program.specs.Names.{Names}
use Rattle.tac_reader.specs.Laws.{without_spans}
use Rattle.tac_program.specs.declared.program.Label.{Label}
use Rattle.tac_program.specs.declared.program.StmtKind.{StmtKind}
use Rattle.tac_reader.proofs.tokens.Bare.{erased, all_erased, words_of, words_erased, names_erased, form_of-erased, callees-erased, variables-erased}
use Rattle.tac_reader.proofs.tokens.Bare.{statements_of-erased, labels_in-erased, label_places-erased, erased_section, sections_in-erased}

-- A section's title and labels, the places of the labels, and the statements, all without places in the text.
pub record Core : Type 0 where
  pub title : Token
  pub labels : List Token
  pub places : List ℕ
  pub statements : List (List Token)

abbrev pub core : Section → Core
core s = record {
  title = erased s.title;
  labels = all_erased (labels_in s);
  places = label_places 0 s.body;
  statements = map all_erased (statements_of s.body);
}

-- The cores of sections are those of the sections without places.
pub erased_twice : (ts : List Token) → all_erased (all_erased ts) ≡ all_erased ts
erased_twice [] = refl
erased_twice (t ∷ ts) = ap (λ r. erased t ∷ r) (erased_twice ts)

pub each_twice : (ls : List (List Token)) → map all_erased (map all_erased ls) ≡ map all_erased ls
each_twice [] = refl
each_twice (l ∷ ls) = λ i. erased_twice l i ∷ each_twice ls i

core-erased : (s : Section) → core (erased_section s) ≡ core s
core-erased s = λ i. record {
  title = erased s.title;
  labels = (ap all_erased (labels_in-erased s.body) ∙ erased_twice (labels_in s)) i;
  places = label_places-erased 0 s.body i;
  statements = (ap (map all_erased) (statements_of-erased s.body) ∙ each_twice (statements_of s.body)) i;
}

each_core-erased : (ss : List Section) → map core (map erased_section ss) ≡ map core ss
each_core-erased [] = refl
each_core-erased (s ∷ ss) = λ i. core-erased s i ∷ each_core-erased ss i

pub cores-erased : (ls : List (List Token)) → map core (sections_in (map all_erased ls)) ≡ map core (sections_in ls)
cores-erased ls = ap (map core) (sections_in-erased ls) ∙ each_core-erased (sections_in ls)

-- A list that is made of a list, through a map of each.
pub flat_map-through : {X Y A B : Type 0} (f : A → B) (g : X → List A) (k : X → Y) (h : Y → List B) → ((x : X) → map f (g x) ≡ h (k x))
    → (xs : List X) → map f (flat_map g xs) ≡ flat_map h (map k xs)
flat_map-through f g k h e [] = refl
flat_map-through f g k h e (x ∷ xs) = map-append f (g x) (flat_map g xs) ∙ (λ i. e x i ++ flat_map-through f g k h e xs i)

-- Statements.
abbrev pub kind_in : Names → List Token → StmtKind
kind_in names ts = kind_of names (map (λ t. number_of names.procedures (spelling_of t)) (callees_of ts)) (form_of ts) (words_of ts)

numbers-erased : (names : List (List ℕ)) (ts : List Token)
    → map (λ t. number_of names (spelling_of t)) (all_erased ts) ≡ map (λ t. number_of names (spelling_of t)) ts
numbers-erased names [] = refl
numbers-erased names (t ∷ ts) = ap (λ r. number_of names (spelling_of t) ∷ r) (numbers-erased names ts)

kind_in-erased : (names : Names) (ts : List Token) → kind_in names (all_erased ts) ≡ kind_in names ts
kind_in-erased names ts = λ i.
    kind_of names
    ((ap (map (λ t. number_of names.procedures (spelling_of t))) (callees-erased ts) ∙ numbers-erased names.procedures (callees_of ts)) i)
    (form_of-erased ts i) (words_erased ts i)

kinds : (text : List ℕ) (names : Names) (ls : List (List Token))
    → map (λ s. s.kind) (map (statement_of text names) ls) ≡ map (kind_in names) (map all_erased ls)
kinds text names [] = refl
kinds text names (l ∷ ls) = λ i. sym (kind_in-erased names l) i ∷ kinds text names ls i

-- Procedures.
abbrev pub Outline : Type 0
Outline = ℕ × List Label × List (List ℕ) × List StmtKind

abbrev pub outline : List (List ℕ) → List (List ℕ) → ℕ → Core → Outline
outline procedures variables n c =
    let names : Names = record { procedures = procedures; variables = variables; labels = names_in c.labels } in
    (n, labels_from 0 c.places, names_in c.labels, map (kind_in names) c.statements)

abbrev pub outlines : List (List ℕ) → List (List ℕ) → ℕ → List Core → List Outline
outlines procedures variables n [] = []
outlines procedures variables n (c ∷ cs) = outline procedures variables n c ∷ outlines procedures variables (suc n) cs

outline_is : (text : List ℕ) (procedures variables : List (List ℕ)) (n : ℕ) (s : Section)
    → without_spans (procedure_of text procedures variables n s) ≡ outline procedures variables n (core s)
outline_is text procedures variables n s =
    let names : List (List ℕ) → Names = λ labels. record { procedures = procedures; variables = variables; labels = labels } in
    λ i. (
      n,
      labels_from 0 (label_places 0 s.body),
      sym (names_erased (labels_in s)) i,
      (kinds text (names (names_in (labels_in s))) (statements_of s.body)
          ∙ ap (λ ls. map (kind_in (names ls)) (map all_erased (statements_of s.body))) (sym (names_erased (labels_in s)))) i,
    )

pub outlines_are : (text : List ℕ) (procedures variables : List (List ℕ)) (n : ℕ) (ss : List Section)
    → map without_spans (procedures_from text procedures variables n ss) ≡ outlines procedures variables n (map core ss)
outlines_are text procedures variables n [] = refl
outlines_are text procedures variables n (s ∷ ss) =
    λ i. outline_is text procedures variables n s i ∷ outlines_are text procedures variables (suc n) ss i

-- Names.
abbrev pub core_titles : List Core → List Token
core_titles cs = map (λ c. c.title) cs

pub titles-erased : (ss : List Section) → all_erased (titles ss) ≡ core_titles (map core ss)
titles-erased [] = refl
titles-erased (s ∷ ss) = ap (λ r. erased s.title ∷ r) (titles-erased ss)

pub title_names : (ss : List Section) → names_in (titles ss) ≡ names_in (core_titles (map core ss))
title_names ss = sym (names_erased (titles ss)) ∙ ap names_in (titles-erased ss)

abbrev pub core_variables : List Core → List Token
core_variables cs = flat_map (λ c. flat_map variables_of c.statements) cs

pub variable_names : (ss : List Section) → variables_in ss ≡ each_once (names_in (core_variables (map core ss)))
variable_names ss =
    let used : List Token = flat_map (λ s. flat_map variables_of (statements_of s.body)) ss in
    ap each_once
    (sym (names_erased used)
    ∙ ap names_in
    (flat_map-through erased (λ (s : Section). flat_map variables_of (statements_of s.body)) core (λ c. flat_map variables_of c.statements)
    (λ s. flat_map-through erased variables_of all_erased variables_of (λ ts. sym (variables-erased ts)) (statements_of s.body))
    ss))
