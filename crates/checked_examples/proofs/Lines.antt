-- The lines of a set: none is too long, and together they are its text
use Rattle.std.proofs.Common.{◌≡◌, ℕ, ◌+◌, ◌<◌, ◌≤◌, Bool, true, false, List, [], ◌∷◌, ◌++◌, All, Contains, drop, flat_map, length, codes, ◌⊎◌, inl, inr}
use Rattle.std.proofs.Common.{nat_lt, if◌then◌else◌, refl, sym, ap, ◌∙◌, append_assoc, append-nil, arith}
use Rattle.std.specs.List.{AllByRecursion}
use Rattle.std.proofs.lemmas.Bool.{cases_lt, ltb-true}
use Rattle.std.proofs.lemmas.List.{length-append}
use Rattle.std.proofs.lemmas.List.Elements.{All-from_recursion}
use Rattle.flow_graph.proofs.lists.Membership.{Contains-first, Contains-later}
use Rattle.flow_texts.specs.Tables.{listed}
use Rattle.text_pieces.proofs.sinks.Escapes.{escaped-append}
use Rattle.text_pieces.specs.Strings.{escaped}
use Rattle.point_sets.specs.SetLines.{columns, fits, lines_from, set_lines, width}
use Rattle.checked_examples.specs.LineLaws.{IsAlone, LinesAreTheSet, LinesFit, rejoined}

wider : (a b : List ℕ) → width (a ++ b) ≡ width a + width b
wider a b = ap length (escaped-append a b) ∙ length-append (escaped a) (escaped b)

-- ---- no line is too long

module _ (head : List ℕ) (all : List (List ℕ)) where
  abbrev Fits : List ℕ → Type 0
  Fits line = (width line ≤ columns) ⊎ IsAlone head all line

  -- a line without its end: there is room for a comma, or one name stands on it
  abbrev Open : List ℕ → Type 0
  Open line = (width line < columns) ⊎ ((start : List ℕ) × (name : List ℕ) × ((start ≡ head) ⊎ (start ≡ codes "  ")) × Contains all name
      × (line ≡ start ++ name))

  closed : (line : List ℕ) → Open line → Fits line
  closed line (inl room) = inl (omega (arith, room))
  closed line (inr alone) = inr (record {
    start = alone.0;
    name = alone.1;
    end = [];
    starts = alone.2;
    named = alone.3;
    ends = inl refl;
    is_line = alone.4 ∙ sym (append-nil (alone.0 ++ alone.1));
  })

  with_comma : (line : List ℕ) → Open line → Fits (line ++ codes ",")
  with_comma line (inl room) = inl (omega (arith, room, wider line (codes ",")))
  with_comma line (inr alone) = inr (record {
    start = alone.0;
    name = alone.1;
    end = codes ",";
    starts = alone.2;
    named = alone.3;
    ends = inr refl;
    is_line = ap (λ l. l ++ codes ",") alone.4;
  })

  begun : (start name : List ℕ) → (start ≡ head) ⊎ (start ≡ codes "  ") → Contains all name → Open (start ++ name)
  begun start name starts among = by_width (cases_lt (width (start ++ name)) columns)
    where
      by_width : (width (start ++ name) < columns) ⊎ (columns ≤ width (start ++ name)) → Open (start ++ name)
      by_width (inl room) = inl room
      by_width (inr none) = inr (start, name, starts, among, refl)

  longer : (line name : List ℕ) → fits (width line) (width name) ≡ true → Open (line ++ codes ", " ++ name)
  longer line name is =
      let room : width line + 2 + width name < columns = ltb-true (width line + 2 + width name) columns is in
      inl (omega (arith, room, wider (line ++ codes ", ") name, wider line (codes ", ")))

  fit_from : (line : List ℕ) (names : List (List ℕ)) → Open line → ((name : List ℕ) → Contains names name → Contains all name)
      → AllByRecursion Fits (lines_from line names)
  fit_from line [] is among = (closed line is, tt)
  fit_from line (name ∷ names) is among =
      by_test (fits (width line) (width name)) refl
      (λ l is_open. fit_from l names is_open (λ n inside. among n (Contains-later name names n inside)))
    where
      by_test : (b : Bool) → fits (width line) (width name) ≡ b → ((l : List ℕ) → Open l → AllByRecursion Fits (lines_from l names))
          → AllByRecursion Fits (if b then lines_from (line ++ codes ", " ++ name) names
          else (line ++ codes ",") ∷ lines_from (codes "  " ++ name) names)
      by_test true fit next = next (line ++ codes ", " ++ name) (longer line name fit)
      by_test false fit next = (
        with_comma line is,
        next (codes "  " ++ name) (begun (codes "  ") name (inr refl) (among name (Contains-first name names))),
      )

pub lines_do_fit : LinesFit
lines_do_fit head [] short =
    All-from_recursion (Fits head []) (set_lines head []) (inl (omega (arith, short, wider head (codes "-"))), tt)
lines_do_fit head (name ∷ names) short =
    All-from_recursion (Fits head (name ∷ names)) (set_lines head (name ∷ names)) (fit_from head (name ∷ names) (head ++ name) names
    (begun head (name ∷ names) head name (inl refl) (Contains-first name names)) (λ n inside. Contains-later name names n inside))

-- ---- together they are the set's text

abbrev further : List ℕ → List ℕ
further line = codes " " ++ drop 2 line

abbrev behind : List ℕ → List ℕ
behind name = codes ", " ++ name

rest_joined : (line : List ℕ) (names : List (List ℕ))
    → flat_map further (lines_from (codes "  " ++ line) names) ≡ codes " " ++ line ++ flat_map behind names
rest_joined line [] = refl
rest_joined line (name ∷ names) = by_test (fits (width (codes "  " ++ line)) (width name)) (λ l. rest_joined l names)
  where
    by_test : (b : Bool) → ((l : List ℕ) → flat_map further (lines_from (codes "  " ++ l) names) ≡ codes " " ++ l ++ flat_map behind names)
        → flat_map further (if b then lines_from (codes "  " ++ line ++ codes ", " ++ name) names
        else (codes "  " ++ line ++ codes ",") ∷ lines_from (codes "  " ++ name) names)
        ≡ codes " " ++ line ++ (codes ", " ++ name ++ flat_map behind names)
    by_test true next =
        next (line ++ codes ", " ++ name)
        ∙ ap (λ t. codes " " ++ t) (ap (λ t. t ++ flat_map behind names) (append_assoc line (codes ", ") name)
        ∙ append_assoc line (codes ", " ++ name) (flat_map behind names))
    by_test false next =
        ap (λ t. codes " " ++ (line ++ codes ",") ++ t) (next name)
        ∙ ap (λ t. codes " " ++ t) (append_assoc line (codes ",") (codes " " ++ name ++ flat_map behind names))

joined_from : (line : List ℕ) (names : List (List ℕ)) → rejoined (lines_from line names) ≡ line ++ flat_map behind names
joined_from line [] = refl
joined_from line (name ∷ names) = by_test (fits (width line) (width name)) (λ l. joined_from l names)
  where
    by_test : (b : Bool) → ((l : List ℕ) → rejoined (lines_from l names) ≡ l ++ flat_map behind names)
        → rejoined (if b then lines_from (line ++ codes ", " ++ name) names else (line ++ codes ",") ∷ lines_from (codes "  " ++ name) names)
        ≡ line ++ (codes ", " ++ name ++ flat_map behind names)
    by_test true next =
        next (line ++ codes ", " ++ name)
        ∙ ap (λ t. t ++ flat_map behind names) (append_assoc line (codes ", ") name)
        ∙ append_assoc line (codes ", " ++ name) (flat_map behind names)
    by_test false next =
        ap (λ t. line ++ codes "," ++ t) (rest_joined name names)
        ∙ append_assoc line (codes ",") (codes " " ++ name ++ flat_map behind names)

pub lines_do_join : LinesAreTheSet
lines_do_join head [] = append-nil (head ++ codes "-")
lines_do_join head (name ∷ names) = joined_from (head ++ name) names ∙ append_assoc head name (flat_map behind names)
