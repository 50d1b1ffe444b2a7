-- A statement of a form, with known names, is written as its words.
use Rattle.std.proofs.Common.{◌≡◌, ℕ, Bool, true, false, cond, ◌||◌, List, [], ◌∷◌, ◌++◌, map, flat_map, find, refl, sym, ap, ◌∙◌, subst, Option}
use Rattle.std.proofs.Common.{Some, bytes_eq, true≢false, if◌then◌else◌, unwrap_or}
use Rattle.std.specs.List.{AllByRecursion as Each, list_all}
use Rattle.std.specs.Cmp.Lexicographic.{same_text}
use Rattle.std.proofs.lemmas.Bool.{and_parts}
use Rattle.std.proofs.lemmas.Option.{same_Some}
use Rattle.std.proofs.Math.Bool.{or-false}
use Rattle.tac_lines.specs.Tokens.{Word, name, number, fixed, Token, bytes_of, spelling_of}
use Rattle.tac_program.specs.Spelling.{binary_signs, unary_signs, comparison_signs, sign_of}
use Rattle.tac_program.specs.Names.{is_one_of, Names}
use Rattle.tac_lines.specs.Forms.{Slot, exactly, procedure, variable, operand, label, callee, binary, unary, comparison, fills, has_form}
use Rattle.tac_lines.specs.Forms.{is_name_word, some_form, statements, statement_row, paired, in_slot, is_label, is_callee, is_variable, callees_of}
use Rattle.tac_reader.specs.Sections.{only_name}
use Rattle.tac_program.specs.Programs.{number_of}
use Rattle.tac_reader.specs.Parses.{operator_of, kind_of}
use Rattle.tac_program.specs.Spelling.{operators}
use Rattle.tac_listing.specs.Listings.{statement_text}
use Rattle.tac_lines.specs.declared.form.Form.{Form}
use Rattle.tac_lines.proofs.forms.RowLengths.{found_row}
use Rattle.tac_program.specs.declared.program.Op.{Op}
use Rattle.tac_program.specs.declared.program.Op.TheVariants as op
use Rattle.tac_reader.proofs.tokens.Bare.{words_of}
use Rattle.tac_reader.proofs.sections.Cores.{kind_in}
use Rattle.tac_reader.proofs.known_names.KnownNames.{Known, name_of_number}
use Rattle.tac_reader.proofs.programs.FaultlessStatements.{KnownVariable, KnownLabel, KnownProcedure, each_tested}
use Rattle.tac_reader.proofs.programs.SoundStatements.{cells_are}
use Rattle.tac_reader.proofs.layouts.Layouts.{layout}
use Rattle.tac_reader.proofs.layouts.StatementTexts.{Resolves, Resolved, callee_numbers, numbers_are, IsWritten, all_written}
use Rattle.tac_reader.proofs.programs.StatementWords.{row_form}

-- What is found has what each has, and passes the test.
each_found : {X : Type 0} (P : X → Type 0) (test : X → Bool) (xs : List X) (x : X) → Each P xs → find test xs ≡ Some x → P x × (test x ≡ true)
each_found P test [] x h e = absurd (cc e)
each_found P test (y ∷ ys) x h e = go (test y) refl e (λ k. each_found P test ys x h.1 k) where
  go : (b : Bool) → test y ≡ b → cond (test y) (Some y) (find test ys) ≡ Some x → (find test ys ≡ Some x → P x × (test x ≡ true))
      → P x × (test x ≡ true)
  go true t k later =
      let e : y ≡ x = same_Some y x (sym (ap (λ c. cond c (Some y) (find test ys)) t) ∙ k) in
      subst (λ z. P z × (test z ≡ true)) e (h.0, t)
  go false t k later = later (sym (ap (λ c. cond c (Some y) (find test ys)) t) ∙ k)

pub statement_written : (names : Names) (ts : List Token) (row : Form × List Slot) → statement_row ts ≡ Some row → Resolved names row.1 (words_of ts)
    → statement_text names (kind_in names ts) ≡ layout row.1 (words_of ts)
statement_written names ts row e h =
    let numbers : map (λ t. number_of names.procedures (spelling_of t)) (callees_of ts) ≡ callee_numbers names.procedures row.1 (words_of ts) =
    ap (λ cs. map (λ t. number_of names.procedures (spelling_of t)) (in_slot is_callee cs)) (cells_are ts row e)
    ∙ numbers_are names.procedures row.1 ts in
    (λ i. statement_text names (kind_of names (numbers i) (row_form ts row e i) (words_of ts)))
    ∙ (each_found (IsWritten names) (λ r. has_form r.1 ts) statements row (all_written names) e).0 (words_of ts) h

-- The row of tokens that have some form of a statement.
pub form_row : (ts : List Token) (rows : List (Form × List Slot)) → some_form (map (λ row. row.1) rows) ts ≡ true
    → (row : Form × List Slot) × (find (λ r. has_form r.1 ts) rows ≡ Some row)
form_row ts [] h = absurd (true≢false (sym h))
form_row ts (r ∷ rs) h = go (has_form r.1 ts) refl (form_row ts rs) where
  go : (b : Bool) → has_form r.1 ts ≡ b
      → (some_form (map (λ row. row.1) rs) ts ≡ true → (row : Form × List Slot) × (find (λ q. has_form q.1 ts) rs ≡ Some row))
      → (row : Form × List Slot) × (cond (has_form r.1 ts) (Some r) (find (λ q. has_form q.1 ts) rs) ≡ Some row)
  go true e later = (r, ap (λ b. cond b (let o : Option (Form × List Slot) = Some r in o) (find (λ q. has_form q.1 ts) rs)) e)
  go false e later =
      let rest = later (sym (ap (λ b. b || some_form (map (λ row. row.1) rs) ts) e) ∙ h) in
      (rest.0, ap (λ b. cond b (let o : Option (Form × List Slot) = Some r in o) (find (λ q. has_form q.1 ts) rs)) e ∙ rest.1)

pub row_has_form : (ts : List Token) (row : Form × List Slot) → statement_row ts ≡ Some row → has_form row.1 ts ≡ true
row_has_form ts row e = found_row ts statements row e

pub row_passes : (test : Form × List Slot → Bool) (ts : List Token) (row : Form × List Slot) → list_all test statements ≡ true
    → statement_row ts ≡ Some row → test row ≡ true
row_passes test ts row all e = (each_found (λ r. test r ≡ true) (λ r. has_form r.1 ts) statements row (each statements all) e).0 where
  each : (rows : List (Form × List Slot)) → list_all test rows ≡ true → Each (λ r. test r ≡ true) rows
  each [] h = tt
  each (r ∷ rs) h = let parts = and_parts (test r) (list_all test rs) h in (parts.0, each rs parts.1)

-- The sign of the operator of a sign.
found_sign : (s : List ℕ) (ops : List Op) → is_one_of s (map sign_of ops) ≡ true
    → sign_of (unwrap_or (find (λ o. bytes_eq s (sign_of o)) ops) op.Plus) ≡ s
found_sign s [] h = absurd (true≢false (sym h))
found_sign s (o ∷ os) h = go (bytes_eq s (sign_of o)) refl (found_sign s os) where
  go : (b : Bool) → bytes_eq s (sign_of o) ≡ b
      → (is_one_of s (map sign_of os) ≡ true → sign_of (unwrap_or (find (λ p. bytes_eq s (sign_of p)) os) op.Plus) ≡ s)
      → sign_of (unwrap_or (cond (bytes_eq s (sign_of o)) (Some o) (find (λ p. bytes_eq s (sign_of p)) os)) op.Plus) ≡ s
  go true e later =
      ap (λ c. sign_of (unwrap_or (cond c (Some o) (find (λ p. bytes_eq s (sign_of p)) os)) op.Plus)) e ∙ sym (same_text s (sign_of o) (sym e))
  go false e later =
      ap (λ c. sign_of (unwrap_or (cond c (Some o) (find (λ p. bytes_eq s (sign_of p)) os)) op.Plus)) e
      ∙ later (sym (ap (λ c. c || is_one_of s (map sign_of os)) e) ∙ h)

sign_back : (s : List ℕ) (those : List (List ℕ)) → list_all (λ t. is_one_of t (map sign_of operators)) those ≡ true → is_one_of s those ≡ true
    → sign_of (operator_of (fixed s)) ≡ s
sign_back s those all h = found_sign s operators (each_tested (λ t. is_one_of t (map sign_of operators)) those s all h)

-- Known names.
abbrev KnownIn : Names → Slot → Word → Type 0
KnownIn names variable w = Known names.variables (bytes_of w)
KnownIn names operand w = is_name_word w ≡ true → Known names.variables (bytes_of w)
KnownIn names label w = Known names.labels (bytes_of w)
KnownIn names callee w = Known names.procedures (bytes_of w)
KnownIn names _ w = Unit {0}

resolves : (names : Names) (s : Slot) (w : Word) → fills s w ≡ true → KnownIn names s w → Resolves names s w
resolves names (exactly k) (fixed u) f h = same_text u k (sym f ∙ or-false (bytes_eq u k))
resolves names (exactly k) (name x) f h = absurd (true≢false (sym f))
resolves names (exactly k) (number n) f h = absurd (true≢false (sym f))
resolves names procedure w f h = tt
resolves names variable (name x) f h = name_of_number names.variables x h
resolves names variable (number n) f h = absurd (true≢false (sym f))
resolves names variable (fixed u) f h = absurd (true≢false (sym f))
resolves names operand (name x) f h = name_of_number names.variables x (h refl)
resolves names operand (number n) f h = refl
resolves names operand (fixed u) f h = absurd (true≢false (sym f))
resolves names label (name x) f h = name_of_number names.labels x h
resolves names label (number n) f h = absurd (true≢false (sym f))
resolves names label (fixed u) f h = absurd (true≢false (sym f))
resolves names callee (name x) f h = name_of_number names.procedures x h
resolves names callee (number n) f h = absurd (true≢false (sym f))
resolves names callee (fixed u) f h = absurd (true≢false (sym f))
resolves names binary (fixed u) f h = sign_back u binary_signs refl f
resolves names binary (name x) f h = absurd (true≢false (sym f))
resolves names binary (number n) f h = absurd (true≢false (sym f))
resolves names unary (fixed u) f h = sign_back u unary_signs refl f
resolves names unary (name x) f h = absurd (true≢false (sym f))
resolves names unary (number n) f h = absurd (true≢false (sym f))
resolves names comparison (fixed u) f h = sign_back u comparison_signs refl f
resolves names comparison (name x) f h = absurd (true≢false (sym f))
resolves names comparison (number n) f h = absurd (true≢false (sym f))

-- A statement's names, as the lists of those that each kind of place holds.
module _ (names : Names) (t : Token) (us : List Token) where
  first_name : (n : Bool) → Each (KnownVariable names) ((if n then t ∷ [] else []) ++ us)
      → (n ≡ true → KnownVariable names t) × Each (KnownVariable names) us
  first_name true h = (λ e. h.0, h.1)
  first_name false h = (λ e. absurd (true≢false (sym e)), h)

pub resolved : (names : Names) (slots : List Slot) (ts : List Token) → has_form slots ts ≡ true
    → Each (KnownLabel names) (in_slot is_label (paired slots ts)) → Each (KnownProcedure names) (in_slot is_callee (paired slots ts))
    → Each (KnownVariable names) (flat_map only_name (in_slot is_variable (paired slots ts))) → Resolved names slots (words_of ts)
resolved names [] [] f ls cs vs = tt
resolved names [] (t ∷ ts) f ls cs vs = absurd (true≢false (sym f))
resolved names (s ∷ ss) [] f ls cs vs = absurd (true≢false (sym f))
resolved names (s ∷ ss) (t ∷ ts) f ls cs vs =
    let parts = and_parts (fills s t.word) (has_form ss ts) f in
    let known = split s parts.0 ls cs vs in
    (resolves names s t.word parts.0 known.0, resolved names ss ts parts.1 known.1 known.2 known.3)
  where
    split : (p : Slot)
        → fills p t.word ≡ true
        → Each (KnownLabel names) (in_slot is_label ((p, t) ∷ paired ss ts))
        → Each (KnownProcedure names) (in_slot is_callee ((p, t) ∷ paired ss ts))
        → Each (KnownVariable names) (flat_map only_name (in_slot is_variable ((p, t) ∷ paired ss ts)))
        → KnownIn names p t.word × Each (KnownLabel names) (in_slot is_label (paired ss ts)) × Each (KnownProcedure names)
        (in_slot is_callee (paired ss ts)) × Each (KnownVariable names) (flat_map only_name (in_slot is_variable (paired ss ts)))
    split label g a b c = (a.0, a.1, b, c)
    split callee g a b c = (b.0, a, b.1, c)
    split variable g a b c =
        let rest = first_name names t (flat_map only_name (in_slot is_variable (paired ss ts))) (is_name_word t.word) c in
        (rest.0 g, a, b, rest.1)
    split operand g a b c =
        let rest = first_name names t (flat_map only_name (in_slot is_variable (paired ss ts))) (is_name_word t.word) c in
        (rest.0, a, b, rest.1)
    split (exactly k) g a b c = (tt, a, b, c)
    split procedure g a b c = (tt, a, b, c)
    split binary g a b c = (tt, a, b, c)
    split unary g a b c = (tt, a, b, c)
    split comparison g a b c = (tt, a, b, c)
