-- Statements without faults: their words fill the places of one form, and what they say is sound.
use Rattle.std.proofs.Common.{◌≡◌, ℕ, ◌<◌, Bool, true, false, ◌||◌, List, [], ◌∷◌, ◌++◌, flat_map, length, refl, sym, ap, ◌∙◌, subst, true≢false}
use Rattle.std.proofs.Common.{bytes_eq, codes, if◌then◌else◌}
use Rattle.std.proofs.lemmas.Bool.{and_parts, or_parts, not-true}
use Rattle.std.proofs.lemmas.Slice.Eq.{bytes_eq-Decides}
use Rattle.std.specs.List.{AllByRecursion as Each, list_all}
use Rattle.tac_lines.specs.Tokens.{Word, name, number, fixed, Token, bytes_of, spelling_of, unless_empty}
use Rattle.tac_program.specs.Spelling.{unary_signs, binary_signs, comparison_signs, sign_of}
use Rattle.tac_program.specs.Names.{is_one_of, Names}
use Rattle.tac_lines.specs.Forms.{Slot, exactly, procedure, variable, operand, label, callee, binary, unary, comparison, key, fills, is_name_word}
use Rattle.tac_lines.specs.Forms.{is_fixed_in, has_form, end_form, label_form, labels_of, behind_labels, forms_for, some_form, statement_forms}
use Rattle.tac_lines.specs.Forms.{paired, in_slot, is_inner, is_label, is_variable}
use Rattle.tac_reader.specs.Sections.{statements_of, only_name}
use Rattle.tac_reader.specs.Parses.{operator_of, variable_of, label_of, operand_of}
use Rattle.tac_program.specs.Sound.{IsLawfulName, IsSoundOperand, IsUnary, IsBinary, IsComparison}
use Rattle.tac_program.proofs.lists.Elements.{each-flat_map, each-weaker}
use Rattle.tac_reader.proofs.known_names.KnownNames.{Known, number_below}
use Rattle.tac_reader.proofs.lines.FaultlessLines.{IsSoundWord, Sound, Inner, name_lawful}

-- A statement without faults: it has some form, and its words are sound.
pub record IsFaultlessStatement (ts : List Token) : Type 0 where
  pub words : Each Sound ts
  pub form : some_form statement_forms ts ≡ true

-- The tokens of labels, and those behind labels, are tokens of the line.
labels_lawful : (line : List Token) → Each Sound line → Each (λ t. IsLawfulName (spelling_of t)) (labels_of line)
labels_lawful [] h = tt
labels_lawful (t ∷ []) h = tt
labels_lawful (t ∷ u ∷ ts) h = by_test (has_form label_form (t ∷ u ∷ [])) refl (labels_lawful ts h.1.1) where
  by_test : (b : Bool) → has_form label_form (t ∷ u ∷ []) ≡ b → Each (λ t. IsLawfulName (spelling_of t)) (labels_of ts)
      → Each (λ t. IsLawfulName (spelling_of t)) (if b then t ∷ labels_of ts else [])
  by_test true e rest = (name_lawful t (and_parts (is_name_word t.word) (has_form (key (codes ":") ∷ []) (u ∷ [])) e).0 h.0, rest)
  by_test false e rest = tt

behind_sound : (line : List Token) → Each Sound line → Each Sound (behind_labels line)
behind_sound [] h = tt
behind_sound (t ∷ []) h = h
behind_sound (t ∷ u ∷ ts) h = by_test (has_form label_form (t ∷ u ∷ [])) (behind_sound ts h.1.1) where
  by_test : (b : Bool) → Each Sound (behind_labels ts) → Each Sound (if b then behind_labels ts else t ∷ u ∷ ts)
  by_test true rest = rest
  by_test false rest = h

pub no_labels : (line : List Token) → labels_of line ≡ [] → behind_labels line ≡ line
no_labels [] e = refl
no_labels (t ∷ []) e = refl
no_labels (t ∷ u ∷ ts) e = by_test (has_form label_form (t ∷ u ∷ [])) e where
  by_test : (b : Bool) → (if b then t ∷ labels_of ts else []) ≡ [] → (if b then behind_labels ts else t ∷ u ∷ ts) ≡ t ∷ u ∷ ts
  by_test true k = absurd (cc k)
  by_test false k = refl

no_end : (line : List Token) → is_inner line ≡ true → has_form end_form line ≡ false
no_end line h =
    let proc : Bool = has_form (key (codes "proc") ∷ procedure ∷ []) line in
    (or_parts proc (has_form end_form line) (not-true (proc || has_form end_form line) h)).1

-- What stands behind the labels of a procedure's line, where there is something, has the form of a statement.
statement_form : (line : List Token) (t : Token) (ts : List Token) → Inner line → behind_labels line ≡ t ∷ ts
    → some_form statement_forms (t ∷ ts) ≡ true
statement_form line t ts h e = go (labels_of line) refl (ap (some_form (forms_for true (labels_of line))) (sym e) ∙ (h.0).form) where
  drop_end : (b s : Bool) → b ≡ false → (b || s) ≡ true → s ≡ true
  drop_end true s f k = absurd (true≢false f)
  drop_end false s f k = k

  go : (labels : List Token) → labels_of line ≡ labels → some_form (forms_for true labels) (t ∷ ts) ≡ true → some_form statement_forms (t ∷ ts) ≡ true
  go (l ∷ ls) f k = k
  go [] f k = drop_end (has_form end_form (t ∷ ts)) (some_form statement_forms (t ∷ ts))
      (ap (has_form end_form) (sym e ∙ no_labels line f) ∙ no_end line h.1) k

pub line_statements : (line : List Token) → Inner line → Each IsFaultlessStatement (unless_empty (behind_labels line))
line_statements line h = go (behind_labels line) refl where
  go : (ts : List Token) → behind_labels line ≡ ts → Each IsFaultlessStatement (unless_empty ts)
  go [] e = tt
  go (t ∷ ts) e = (record { words = subst (Each Sound) e (behind_sound line (h.0).words); form = statement_form line t ts h e }, tt)

pub statements_faultless : (body : List (List Token)) → Each Inner body → Each IsFaultlessStatement (statements_of body)
statements_faultless body h = each-flat_map IsFaultlessStatement (λ line. unless_empty (behind_labels line)) body
    (each-weaker Inner (λ line. Each IsFaultlessStatement (unless_empty (behind_labels line))) line_statements body h)

pub all_labels_lawful : (body : List (List Token)) → Each Inner body → Each (λ t. IsLawfulName (spelling_of t)) (flat_map labels_of body)
all_labels_lawful body h =
    each-flat_map (λ t. IsLawfulName (spelling_of t)) labels_of body
    (each-weaker Inner (λ line. Each (λ t. IsLawfulName (spelling_of t)) (labels_of line)) (λ line k. labels_lawful line (k.0).words) body h)

-- An operator is one of those that its place takes.
pub each_tested : (p : List ℕ → Bool) (those : List (List ℕ)) (s : List ℕ) → list_all p those ≡ true → is_one_of s those ≡ true → p s ≡ true
each_tested p [] s h k = absurd (true≢false (sym k))
each_tested p (x ∷ xs) s h k =
    let parts = and_parts (p x) (list_all p xs) h in
    by_test (bytes_eq s x) refl k parts.0 (each_tested p xs s parts.1)
  where
    by_test : (b : Bool) → bytes_eq s x ≡ b → (b || is_one_of s xs) ≡ true → p x ≡ true → (is_one_of s xs ≡ true → p s ≡ true) → p s ≡ true
    by_test true e m here later = ap p ((bytes_eq-Decides s x).0 e) ∙ here
    by_test false e m here later = later m

abbrev fits : List (List ℕ) → Word → Bool
fits those w = is_one_of (sign_of (operator_of w)) those

operator_fits : (those : List (List ℕ)) (w : Word) → list_all (λ s. fits those (fixed s)) those ≡ true → is_fixed_in those w ≡ true
    → fits those w ≡ true
operator_fits those (fixed s) h k = each_tested (λ s. fits those (fixed s)) those s h k
operator_fits those (name s) h k = absurd (true≢false (sym k))
operator_fits those (number n) h k = absurd (true≢false (sym k))

module _ (names : Names) where
  abbrev pub variables : ℕ
  variables = length names.variables

  abbrev pub labels : ℕ
  labels = length names.labels

  abbrev pub procedures : ℕ
  procedures = length names.procedures

  -- What the word in a place says is sound.
  abbrev pub SaysSound : Slot → Word → Type 0
  SaysSound variable w = variable_of names w < variables
  SaysSound operand w = IsSoundOperand variables (operand_of names w)
  SaysSound label w = label_of names w < labels
  SaysSound unary w = IsUnary (operator_of w)
  SaysSound binary w = IsBinary (operator_of w)
  SaysSound comparison w = IsComparison (operator_of w)
  SaysSound _ w = Unit {0}

  abbrev pub AllSaySound : List Slot → List Token → Type 0
  AllSaySound [] [] = Unit {0}
  AllSaySound [] (t ∷ ts) = ⊥
  AllSaySound (s ∷ ss) [] = ⊥
  AllSaySound (s ∷ ss) (t ∷ ts) = SaysSound s t.word × AllSaySound ss ts

  says_sound : (s : Slot) (w : Word) → fills s w ≡ true → IsSoundWord w → (is_variable s ≡ true → is_name_word w ≡ true
      → Known names.variables (bytes_of w)) → (is_label s ≡ true → Known names.labels (bytes_of w)) → SaysSound s w
  says_sound (exactly s) w f h v l = tt
  says_sound procedure w f h v l = tt
  says_sound callee w f h v l = tt
  says_sound variable w f h v l = number_below names.variables (bytes_of w) (v refl f)
  says_sound operand (name s) f h v l = number_below names.variables s (v refl refl)
  says_sound operand (number n) f h v l = h
  says_sound operand (fixed s) f h v l = absurd (true≢false (sym f))
  says_sound label w f h v l = number_below names.labels (bytes_of w) (l refl)
  says_sound unary w f h v l = operator_fits unary_signs w refl f
  says_sound binary w f h v l = operator_fits binary_signs w refl f
  says_sound comparison w f h v l = operator_fits comparison_signs w refl f

  abbrev pub KnownVariable : Token → Type 0
  KnownVariable t = Known names.variables (spelling_of t)

  abbrev pub KnownLabel : Token → Type 0
  KnownLabel t = Known names.labels (spelling_of t)

  abbrev pub KnownProcedure : Token → Type 0
  KnownProcedure t = Known names.procedures (spelling_of t)

  pub all_say_sound : (slots : List Slot) (ts : List Token) → has_form slots ts ≡ true → Each Sound ts → Each KnownVariable
      (flat_map only_name (in_slot is_variable (paired slots ts))) → Each KnownLabel (in_slot is_label (paired slots ts)) → AllSaySound slots ts
  all_say_sound [] [] f h v l = tt
  all_say_sound [] (t ∷ ts) f h v l = absurd (true≢false (sym f))
  all_say_sound (s ∷ ss) [] f h v l = absurd (true≢false (sym f))
  all_say_sound (s ∷ ss) (t ∷ ts) f h v l =
      let parts = and_parts (fills s t.word) (has_form ss ts) f in
      let var = variable_here (is_variable s) v in
      let lab = label_here (is_label s) l in
      (says_sound s t.word parts.0 h.0 var.0 lab.0, all_say_sound ss ts parts.1 h.1 var.1 lab.1)
    where
      name_here : (n : Bool) (us : List Token) → Each KnownVariable ((if n then t ∷ [] else []) ++ us)
          → (n ≡ true → KnownVariable t) × Each KnownVariable us
      name_here true us k = (λ e. k.0, k.1)
      name_here false us k = (λ e. absurd (true≢false (sym e)), k)

      variable_here : (b : Bool)
          → Each KnownVariable (flat_map only_name (if b then t ∷ in_slot is_variable (paired ss ts) else in_slot is_variable (paired ss ts)))
          → (b ≡ true → is_name_word t.word ≡ true → KnownVariable t) × Each KnownVariable (flat_map only_name (in_slot is_variable (paired ss ts)))
      variable_here true k =
          let here = name_here (is_name_word t.word) (flat_map only_name (in_slot is_variable (paired ss ts))) k in
          (λ e. here.0, here.1)
      variable_here false k = (λ e. absurd (true≢false (sym e)), k)

      label_here : (b : Bool) → Each KnownLabel (if b then t ∷ in_slot is_label (paired ss ts) else in_slot is_label (paired ss ts))
          → (b ≡ true → KnownLabel t) × Each KnownLabel (in_slot is_label (paired ss ts))
      label_here true k = (λ e. k.0, k.1)
      label_here false k = (λ e. absurd (true≢false (sym e)), k)
