-- What a statement without faults says is sound.
use Rattle.std.proofs.Common.{◌≡◌, ℕ, ◌<◌, ◌≤◌, Bool, true, false, cond, ◌||◌, List, [], ◌∷◌, map, flat_map, length, refl, sym, ap, ◌∙◌, subst, arith}
use Rattle.std.proofs.Common.{Option, Some, None, find, true≢false, codes}
use Rattle.std.proofs.lemmas.List.{length-map}
use Rattle.std.proofs.lemmas.List.Elements.{All-from_recursion}
use Rattle.std.specs.List.{AllByRecursion as Each, list_any}
use Rattle.tac_lines.specs.Tokens.{Word, Token, spelling_of}
use Rattle.tac_lines.specs.Forms.{Slot, variable, operand, label, callee, binary, unary, comparison, key, has_form, further_callees, plain_statements}
use Rattle.tac_lines.specs.Forms.{statements, statement_row, paired, cells_of, in_slot, is_label, is_callee, is_variable, callees_of, jumps_of}
use Rattle.tac_reader.specs.Sections.{only_name, variables_of}
use Rattle.tac_program.specs.Programs.{number_of}
use Rattle.tac_reader.specs.Parses.{kind_of, statement_of, names_in}
use Rattle.tac_program.specs.Names.{Names}
use Rattle.tac_reader.specs.Faults.{repeated}
use Rattle.tac_program.specs.Sound.{IsSoundStatement}
use Rattle.tac_lines.specs.declared.form.Form.{Form}
use Rattle.tac_lines.specs.declared.form.Form.TheVariants as form
use Rattle.tac_lines.specs.declared.refusal.RefusalKind.TheVariants as kind
use Rattle.tac_lines.proofs.forms.CalleeCounts.{most_callees}
use Rattle.tac_program.proofs.lists.Elements.{each-append, each-map, each-weaker, all_differ, Differ}
use Rattle.tac_reader.proofs.known_names.KnownNames.{Known, number_below, numbers_differ, none_repeated}
use Rattle.tac_reader.proofs.programs.StatementWords.{row_form}
use Rattle.tac_reader.proofs.programs.FaultlessStatements.{IsFaultlessStatement, variables, labels, procedures, AllSaySound, all_say_sound}
use Rattle.tac_reader.proofs.programs.FaultlessStatements.{KnownVariable, KnownLabel, KnownProcedure}

abbrev TableRow : Type 0
TableRow = Form × List Slot

-- The words of tokens.
abbrev words : List Token → List Word
words ts = map (λ t. t.word) ts

-- How many callees stand in the places of a form.
abbrev called : List Slot → List Token → ℕ
called slots ts = length (in_slot is_callee (paired slots ts))

-- Numbers of procedures that are there, each once, and at most eight.
record AreCallees (procedures : ℕ) (cs : List ℕ) : Type 0 where
  few : length cs ≤ 8
  there : Each (λ p. p < procedures) cs
  differ : Differ cs

module _ (names : Names) (cs : List ℕ) where
  -- What the tokens of this row say is sound.
  abbrev RowSound : TableRow → Type 0
  RowSound row = (ts : List Token) → AllSaySound names row.1 ts → length cs ≡ called row.1 ts
      → IsSoundStatement (variables names) (labels names) (procedures names) (kind_of names cs row.0 (words ts))

  copy_sound : RowSound (form.Copy, variable ∷ key (codes "=") ∷ operand ∷ [])
  copy_sound [] h n = absurd h
  copy_sound (a ∷ []) h n = absurd h.1
  copy_sound (a ∷ b ∷ []) h n = absurd h.1.1
  copy_sound (a ∷ b ∷ c ∷ ts) h n = (h.0, h.1.1.0)

  unary_sound : RowSound (form.Unary, variable ∷ key (codes "=") ∷ unary ∷ operand ∷ [])
  unary_sound [] h n = absurd h
  unary_sound (a ∷ []) h n = absurd h.1
  unary_sound (a ∷ b ∷ []) h n = absurd h.1.1
  unary_sound (a ∷ b ∷ c ∷ []) h n = absurd h.1.1.1
  unary_sound (a ∷ b ∷ c ∷ d ∷ ts) h n = record { target = h.0; op = h.1.1.0; operand = h.1.1.1.0 }

  binary_sound : RowSound (form.Binary, variable ∷ key (codes "=") ∷ operand ∷ binary ∷ operand ∷ [])
  binary_sound [] h n = absurd h
  binary_sound (a ∷ []) h n = absurd h.1
  binary_sound (a ∷ b ∷ []) h n = absurd h.1.1
  binary_sound (a ∷ b ∷ c ∷ []) h n = absurd h.1.1.1
  binary_sound (a ∷ b ∷ c ∷ d ∷ []) h n = absurd h.1.1.1.1
  binary_sound (a ∷ b ∷ c ∷ d ∷ e ∷ ts) h n = record { target = h.0; left = h.1.1.0; op = h.1.1.1.0; right = h.1.1.1.1.0 }

  jump_sound : RowSound (form.Jump, key (codes "goto") ∷ label ∷ [])
  jump_sound [] h n = absurd h
  jump_sound (a ∷ []) h n = absurd h.1
  jump_sound (a ∷ b ∷ ts) h n = h.1.0

  test_sound : RowSound (form.Test, key (codes "if") ∷ operand ∷ key (codes "goto") ∷ label ∷ [])
  test_sound [] h n = absurd h
  test_sound (a ∷ []) h n = absurd h.1
  test_sound (a ∷ b ∷ []) h n = absurd h.1.1
  test_sound (a ∷ b ∷ c ∷ []) h n = absurd h.1.1.1
  test_sound (a ∷ b ∷ c ∷ d ∷ ts) h n = (h.1.0, h.1.1.1.0)

  negated_sound : RowSound (form.NegatedTest, key (codes "ifFalse") ∷ operand ∷ key (codes "goto") ∷ label ∷ [])
  negated_sound [] h n = absurd h
  negated_sound (a ∷ []) h n = absurd h.1
  negated_sound (a ∷ b ∷ []) h n = absurd h.1.1
  negated_sound (a ∷ b ∷ c ∷ []) h n = absurd h.1.1.1
  negated_sound (a ∷ b ∷ c ∷ d ∷ ts) h n = (h.1.0, h.1.1.1.0)

  comparison_sound : RowSound (form.Comparison, key (codes "if") ∷ operand ∷ comparison ∷ operand ∷ key (codes "goto") ∷ label ∷ [])
  comparison_sound [] h n = absurd h
  comparison_sound (a ∷ []) h n = absurd h.1
  comparison_sound (a ∷ b ∷ []) h n = absurd h.1.1
  comparison_sound (a ∷ b ∷ c ∷ []) h n = absurd h.1.1.1
  comparison_sound (a ∷ b ∷ c ∷ d ∷ []) h n = absurd h.1.1.1.1
  comparison_sound (a ∷ b ∷ c ∷ d ∷ e ∷ []) h n = absurd h.1.1.1.1.1
  comparison_sound (a ∷ b ∷ c ∷ d ∷ e ∷ f ∷ ts) h n = record { left = h.1.0; op = h.1.1.0; right = h.1.1.1.0; label = h.1.1.1.1.1.0 }

  read_sound : RowSound (form.Read, key (codes "read") ∷ variable ∷ [])
  read_sound [] h n = absurd h
  read_sound (a ∷ []) h n = absurd h.1
  read_sound (a ∷ b ∷ ts) h n = h.1.0

  print_sound : RowSound (form.Print, key (codes "print") ∷ operand ∷ [])
  print_sound [] h n = absurd h
  print_sound (a ∷ []) h n = absurd h.1
  print_sound (a ∷ b ∷ ts) h n = h.1.0

  module _ (callees : AreCallees (procedures names) cs) where
    abbrev call_row : List Slot → TableRow
    call_row r = (form.Call, key (codes "call") ∷ callee ∷ r)

    call_sound : (r : List Slot) → RowSound (call_row r)
    call_sound r [] h n = absurd h
    call_sound r (a ∷ []) h n = absurd h.1
    call_sound r (a ∷ b ∷ ts) h n = record {
      some = omega (arith, n);
      few = callees.few;
      there = All-from_recursion (λ p. p < procedures names) cs callees.there;
      differ = all_differ cs callees.differ;
    }

    calls_sound : (rs : List (List Slot)) → Each RowSound (map call_row rs)
    calls_sound [] = tt
    calls_sound (r ∷ rs) = (call_sound r, calls_sound rs)

    table_sound : Each RowSound statements
    table_sound =
        each-append RowSound plain_statements (map call_row (further_callees 7)) (
          copy_sound,
          (
            unary_sound,
            (
              binary_sound,
              (jump_sound, (test_sound, (negated_sound, (comparison_sound, ((λ ts h n. tt), (read_sound, (print_sound, ((λ ts h n. tt), tt)))))))),
            ),
          ),
        )
        (calls_sound (further_callees 7))

-- The row that tokens have.
record HasRow (Q : TableRow → Type 0) (ts : List Token) (rows : List TableRow) : Type 0 where
  row : TableRow
  found : find (λ r. has_form r.1 ts) rows ≡ Some row
  form : has_form row.1 ts ≡ true
  holds : Q row

has_row : (Q : TableRow → Type 0) (ts : List Token) (rows : List TableRow) → Each Q rows → list_any (λ f. has_form f ts) (map (λ r. r.1) rows) ≡ true
    → HasRow Q ts rows
has_row Q ts [] h e = absurd (true≢false (sym e))
has_row Q ts (r ∷ rs) h e = by_test (has_form r.1 ts) refl e (has_row Q ts rs h.1) where
  by_test : (b : Bool) → has_form r.1 ts ≡ b → (b || list_any (λ f. has_form f ts) (map (λ q. q.1) rs)) ≡ true
      → (list_any (λ f. has_form f ts) (map (λ q. q.1) rs) ≡ true → HasRow Q ts rs) → HasRow Q ts (r ∷ rs)
  by_test true k m later =
      record { row = r; found = ap (λ b. cond b (let o : Option TableRow = Some r in o) (find (λ q. has_form q.1 ts) rs)) k; form = k; holds = h.0 }
  by_test false k m later =
      let rest = later m in
      record {
        row = rest.row;
        found = ap (λ b. cond b (let o : Option TableRow = Some r in o) (find (λ q. has_form q.1 ts) rs)) k ∙ rest.found;
        form = rest.form;
        holds = rest.holds;
      }

pub cells_are : (ts : List Token) (row : TableRow) → statement_row ts ≡ Some row → cells_of ts ≡ paired row.1 ts
cells_are ts row e = ap (λ o. elim o as (λ _. List (Slot × Token)) [ None ↦ [] | Some r ↦ paired r.1 ts ]) e

-- The names in a statement are known, and no procedure is listed twice.
pub record NamesAreKnown (names : Names) (ts : List Token) : Type 0 where
  pub variables : Each (KnownVariable names) (variables_of ts)
  pub labels : Each (KnownLabel names) (jumps_of ts)
  pub procedures : Each (KnownProcedure names) (callees_of ts)
  pub once : repeated kind.DuplicateCallee [] (callees_of ts) ≡ []

callee_numbers : Names → List Token → List ℕ
callee_numbers names ts = map (λ t. number_of names.procedures (spelling_of t)) (callees_of ts)

map-names : (names : Names) (ts : List Token)
    → map (number_of names.procedures) (names_in ts) ≡ map (λ t. number_of names.procedures (spelling_of t)) ts
map-names names [] = refl
map-names names (t ∷ ts) = ap (λ r. number_of names.procedures (spelling_of t) ∷ r) (map-names names ts)

are_callees : (names : Names) (ts : List Token) → NamesAreKnown names ts → AreCallees (procedures names) (callee_numbers names ts)
unfolding callee_numbers
are_callees names ts h = record {
  few = subst (λ n. n ≤ 8) (sym (length-map (callees_of ts) (λ t. number_of names.procedures (spelling_of t)))) (most_callees ts);
  there = each-map (λ p. p < procedures names) (λ t. number_of names.procedures (spelling_of t)) (callees_of ts)
      (each-weaker (KnownProcedure names) (λ t. number_of names.procedures (spelling_of t) < procedures names) (λ t k.
      number_below names.procedures (spelling_of t) k) (callees_of ts) h.procedures);
  differ = subst Differ (map-names names (callees_of ts))
      (numbers_differ names.procedures (names_in (callees_of ts)) (each-map (Known names.procedures) spelling_of (callees_of ts) h.procedures)
      (none_repeated kind.DuplicateCallee [] (callees_of ts) h.once).differ);
}

pub statement_sound : (text : List ℕ) (names : Names) (ts : List Token) → IsFaultlessStatement ts → NamesAreKnown names ts
    → IsSoundStatement (variables names) (labels names) (procedures names) (statement_of text names ts).kind
unfolding callee_numbers
statement_sound text names ts h k =
    let cs = callee_numbers names ts in
    let has = has_row (RowSound names cs) ts statements (table_sound names cs (are_callees names ts k)) h.form in
    let cells : cells_of ts ≡ paired (has.row).1 ts = cells_are ts has.row has.found in
    let says = all_say_sound names (has.row).1 ts has.form h.words
    (subst (λ c. Each (KnownVariable names) (flat_map only_name (in_slot is_variable c))) cells k.variables)
    (subst (λ c. Each (KnownLabel names) (in_slot is_label c)) cells k.labels) in
    let count : length cs ≡ called (has.row).1 ts =
    length-map (callees_of ts) (λ t. number_of names.procedures (spelling_of t)) ∙ ap (λ c. length (in_slot is_callee c)) cells in
    subst (λ f. IsSoundStatement (variables names) (labels names) (procedures names) (kind_of names cs f (words ts)))
    (sym (row_form ts has.row has.found)) (has.holds ts says count)
