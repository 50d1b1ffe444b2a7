-- Of the forms of statements one can go as far with the tokens as any: which, the first words tell.
use Rattle.std.proofs.Common.{◌≡◌, ◌≢◌, ℕ, suc, ◌<◌, ◌≤◌, Bool, true, false, ◌&&◌, List, [], ◌∷◌, length, refl, sym, ap, ◌∙◌, subst, arith, Option}
use Rattle.std.proofs.Common.{Some, None, codes, true≢false, if◌then◌else◌, slice_get, slice_range, ◌-◌}
use Rattle.std.proofs.lemmas.List.{length-map}
use Rattle.std.proofs.lemmas.Option.{same_Some}
use Rattle.tac_lines.specs.Tokens.{Token}
use Rattle.tac_lines.specs.Forms.{Slot, fills, key, label, operand, binary, unary, comparison, variable, callee, further_callees, statement_forms}
use Rattle.tac_lines.specs.Forms.{some_begins}
use Rattle.tac_lines.specs.code.Views.{GoesAsFar, token_view, tokens_view, word_at, fills_at, form_slots, further_slots, of_key}
use Rattle.tac_lines.specs.declared.token.Keyword.{Keyword}
use Rattle.tac_lines.specs.declared.token.Keyword.TheVariants as keyword
use Rattle.tac_program.specs.declared.program.Op.{Op}
use Rattle.tac_program.specs.declared.program.Op.TheVariants as op
use Rattle.tac_lines.specs.declared.token.TokenKind.{TokenKind}
use Rattle.tac_lines.specs.declared.token.TokenKind.TheVariants as kind
use Rattle.tac_lines.specs.declared.token.Token.{Token as Lexed}
use Rattle.tac_lines.specs.declared.form.Form.TheVariants as form
use Rattle.tac_lines.proofs.forms.Table.{behind, step, same_behind}
use Rattle.tac_lines.proofs.forms.Calls.{led, led_far, led_whole, further_live, callee_far, row_further}

module _ (text : List ℕ) where
  abbrev pub view : Lexed → Token
  view t = token_view text t

  abbrev pub views : List Lexed → List Token
  views ts = tokens_view text ts

  abbrev pub at : TokenKind → ℕ → ℕ → Token
  at k a b = record { word = word_at (slice_range text a b) k; start = a; stop = b }

  abbrev pub has_more : Keyword → Bool
  has_more keyword.If = true
  has_more keyword.Call = true
  has_more _ = false

  key_behind : (n : ℕ) (k : Keyword) (a b : ℕ) → has_more k ≡ false
      → behind (at (kind.Keyword k) a b) statement_forms ≡ behind (at (kind.Keyword k) a b) (form_slots (of_key k) n ∷ [])
  key_behind n keyword.If a b h = absurd (true≢false h)
  key_behind n keyword.Call a b h = absurd (true≢false h)
  key_behind n _ a b h = refl

  operator_behind : (o : Op) (a b : ℕ) → behind (at (kind.Operator o) a b) statement_forms ≡ []
  operator_behind op.Plus a b = refl
  operator_behind _ a b = refl

  number_behind : (a b : ℕ) → behind (at kind.Number a b) statement_forms ≡ []
  number_behind a b = refl

  no_token : {A : Type 0} (x : A) → ◌≡◌ {A = Option A} (Some x) None → ⊥
  no_token x e = cc

  -- A token is its kind at its place.
  moved : (t u : Lexed) (k : TokenKind) (P : Token → Type 0) → ◌≡◌ {A = Option Lexed} (Some t) (Some u) → t.kind ≡ k → P (at k u.start u.stop)
      → P (view u)
  moved t u k P e h p = subst (λ j. P (at j u.start u.stop)) (sym h ∙ ap (λ x. x.kind) (same_Some t u e)) p

  pub key_far : (n : ℕ) (ts : List Lexed) (t : Lexed) (k : Keyword) → Some t ≡ slice_get ts 0 → t.kind ≡ kind.Keyword k → has_more k ≡ false
      → GoesAsFar statement_forms (form_slots (of_key k) n ∷ []) (views ts)
  key_far n [] t k e h plain = absurd (no_token t e)
  key_far n (u ∷ us) t k e h plain = moved t u (kind.Keyword k) (λ x. GoesAsFar statement_forms (form_slots (of_key k) n ∷ []) (x ∷ views us)) e h
      (same_behind statement_forms (form_slots (of_key k) n ∷ []) (at (kind.Keyword k) u.start u.stop) (views us)
      (key_behind n k u.start u.stop plain))

  -- Signs and numbers begin no statement.
  abbrev pub begins_none : TokenKind → Bool
  begins_none kind.Name = false
  begins_none (kind.Keyword k) = false
  begins_none _ = true

  none_behind : (k : TokenKind) (a b : ℕ) → begins_none k ≡ true → behind (at k a b) statement_forms ≡ []
  none_behind kind.Name a b h = absurd (true≢false (sym h))
  none_behind kind.Number a b h = refl
  none_behind (kind.Keyword k) a b h = absurd (true≢false (sym h))
  none_behind kind.Colon a b h = refl
  none_behind kind.Equals a b h = refl
  none_behind (kind.Operator o) a b h = operator_behind o a b

  none_behind_skip : (n : ℕ) (k : TokenKind) (a b : ℕ) → begins_none k ≡ true → behind (at k a b) (form_slots form.Skip n ∷ []) ≡ []
  none_behind_skip n kind.Name a b h = absurd (true≢false (sym h))
  none_behind_skip n kind.Number a b h = refl
  none_behind_skip n (kind.Keyword k) a b h = absurd (true≢false (sym h))
  none_behind_skip n kind.Colon a b h = refl
  none_behind_skip n kind.Equals a b h = refl
  none_behind_skip n (kind.Operator o) a b h = skip_operator o where
    skip_operator : (r : Op) → behind (at (kind.Operator r) a b) (form_slots form.Skip n ∷ []) ≡ []
    skip_operator op.Plus = refl
    skip_operator _ = refl

  pub none_far : (n : ℕ) (ts : List Lexed) (t : Lexed) → Some t ≡ slice_get ts 0 → begins_none t.kind ≡ true
      → GoesAsFar statement_forms (form_slots form.Skip n ∷ []) (views ts)
  none_far n [] t e h = absurd (no_token t e)
  none_far n (u ∷ us) t e h = moved t u t.kind (λ x. GoesAsFar statement_forms (form_slots form.Skip n ∷ []) (x ∷ views us)) e refl
      (same_behind statement_forms (form_slots form.Skip n ∷ []) (at t.kind u.start u.stop) (views us)
      (none_behind t.kind u.start u.stop h ∙ sym (none_behind_skip n t.kind u.start u.stop h)))

  pub no_more : (k : Keyword) → k ≢ keyword.If → k ≢ keyword.Call → has_more k ≡ false
  no_more keyword.If h g = absurd (h refl)
  no_more keyword.Call h g = absurd (g refl)
  no_more _ h g = refl

  -- Behind `if`: the word behind the operand tells which form it is.
  abbrev pub to_label : List Slot
  to_label = key (codes "goto") ∷ label ∷ []

  abbrev pub compared : List Slot
  compared = comparison ∷ operand ∷ to_label

  not_both : (k : TokenKind) (a b : ℕ) → (fills comparison (at k a b).word && fills (key (codes "goto")) (at k a b).word) ≡ false
  not_both kind.Name a b = refl
  not_both kind.Number a b = refl
  not_both kind.Colon a b = refl
  not_both kind.Equals a b = refl
  not_both (kind.Keyword k) a b = at_key k where
    at_key : (r : Keyword) → (fills comparison (at (kind.Keyword r) a b).word && fills (key (codes "goto")) (at (kind.Keyword r) a b).word) ≡ false
    at_key keyword.If = refl
    at_key _ = refl
  not_both (kind.Operator o) a b = at_operator o where
    at_operator : (r : Op) → (fills comparison (at (kind.Operator r) a b).word && fills (key (codes "goto")) (at (kind.Operator r) a b).word) ≡ false
    at_operator op.Plus = refl
    at_operator _ = refl

  other_false : (c g : Bool) → (c && g) ≡ false → c ≡ true → g ≡ false
  other_false true g e h = e
  other_false false g e h = absurd (true≢false (sym h))

  -- a choice of rows by two tests
  abbrev pub kept : Bool → List Slot → List (List Slot) → List (List Slot)
  kept a slots fs = if a then slots ∷ fs else fs

  is_compared : (k : TokenKind) (a b : ℕ) → fills comparison (at k a b).word ≡ true
      → behind (at k a b) (to_label ∷ compared ∷ []) ≡ behind (at k a b) (compared ∷ [])
  is_compared k a b h = ap (λ g. kept g (label ∷ []) (kept (fills comparison (at k a b).word) (operand ∷ to_label) []))
      (other_false (fills comparison (at k a b).word) (fills (key (codes "goto")) (at k a b).word) (not_both k a b) h)

  not_compared : (k : TokenKind) (a b : ℕ) → fills comparison (at k a b).word ≡ false
      → behind (at k a b) (to_label ∷ compared ∷ []) ≡ behind (at k a b) (to_label ∷ [])
  not_compared k a b h = ap (λ c. kept (fills (key (codes "goto")) (at k a b).word) (label ∷ []) (kept c (operand ∷ to_label) [])) h

  -- An operand that both rows want.
  both_operand : (r s : List Slot) (k : TokenKind) (a b : ℕ) (ts : List Token) → GoesAsFar (r ∷ s ∷ []) (r ∷ []) ts
      → GoesAsFar ((operand ∷ r) ∷ (operand ∷ s) ∷ []) ((operand ∷ r) ∷ []) (at k a b ∷ ts)
  both_operand r s kind.Name a b ts same = step ((operand ∷ r) ∷ (operand ∷ s) ∷ []) ((operand ∷ r) ∷ []) (at kind.Name a b) ts refl same
  both_operand r s kind.Number a b ts same = step ((operand ∷ r) ∷ (operand ∷ s) ∷ []) ((operand ∷ r) ∷ []) (at kind.Number a b) ts refl same
  both_operand r s (kind.Keyword k) a b ts same =
      same_behind ((operand ∷ r) ∷ (operand ∷ s) ∷ []) ((operand ∷ r) ∷ []) (at (kind.Keyword k) a b) ts refl
  both_operand r s kind.Colon a b ts same = same_behind ((operand ∷ r) ∷ (operand ∷ s) ∷ []) ((operand ∷ r) ∷ []) (at kind.Colon a b) ts refl
  both_operand r s kind.Equals a b ts same = same_behind ((operand ∷ r) ∷ (operand ∷ s) ∷ []) ((operand ∷ r) ∷ []) (at kind.Equals a b) ts refl
  both_operand r s (kind.Operator o) a b ts same =
      same_behind ((operand ∷ r) ∷ (operand ∷ s) ∷ []) ((operand ∷ r) ∷ []) (at (kind.Operator o) a b) ts refl

  second_operand : (r s : List Slot) (k : TokenKind) (a b : ℕ) (ts : List Token) → GoesAsFar (r ∷ s ∷ []) (s ∷ []) ts
      → GoesAsFar ((operand ∷ r) ∷ (operand ∷ s) ∷ []) ((operand ∷ s) ∷ []) (at k a b ∷ ts)
  second_operand r s kind.Name a b ts same = step ((operand ∷ r) ∷ (operand ∷ s) ∷ []) ((operand ∷ s) ∷ []) (at kind.Name a b) ts refl same
  second_operand r s kind.Number a b ts same = step ((operand ∷ r) ∷ (operand ∷ s) ∷ []) ((operand ∷ s) ∷ []) (at kind.Number a b) ts refl same
  second_operand r s (kind.Keyword k) a b ts same =
      same_behind ((operand ∷ r) ∷ (operand ∷ s) ∷ []) ((operand ∷ s) ∷ []) (at (kind.Keyword k) a b) ts refl
  second_operand r s kind.Colon a b ts same = same_behind ((operand ∷ r) ∷ (operand ∷ s) ∷ []) ((operand ∷ s) ∷ []) (at kind.Colon a b) ts refl
  second_operand r s kind.Equals a b ts same = same_behind ((operand ∷ r) ∷ (operand ∷ s) ∷ []) ((operand ∷ s) ∷ []) (at kind.Equals a b) ts refl
  second_operand r s (kind.Operator o) a b ts same =
      same_behind ((operand ∷ r) ∷ (operand ∷ s) ∷ []) ((operand ∷ s) ∷ []) (at (kind.Operator o) a b) ts refl

  comparison_far : (us : List Lexed) → fills_at text comparison (slice_get us 1) ≡ true
      → GoesAsFar ((operand ∷ to_label) ∷ (operand ∷ compared) ∷ []) ((operand ∷ compared) ∷ []) (views us)
  comparison_far [] h = absurd (true≢false (sym h))
  comparison_far (u ∷ []) h = absurd (true≢false (sym h))
  comparison_far (u ∷ v ∷ vs) h = second_operand to_label compared u.kind u.start u.stop (views (v ∷ vs))
      (same_behind (to_label ∷ compared ∷ []) (compared ∷ []) (view v) (views vs) (is_compared v.kind v.start v.stop h))

  test_far : (us : List Lexed) → fills_at text comparison (slice_get us 1) ≡ false
      → GoesAsFar ((operand ∷ to_label) ∷ (operand ∷ compared) ∷ []) ((operand ∷ to_label) ∷ []) (views us)
  test_far [] h = record { wrong = refl; whole = refl }
  test_far (u ∷ []) h = both_operand to_label compared u.kind u.start u.stop [] (record { wrong = refl; whole = refl })
  test_far (u ∷ v ∷ vs) h = both_operand to_label compared u.kind u.start u.stop (views (v ∷ vs))
      (same_behind (to_label ∷ compared ∷ []) (to_label ∷ []) (view v) (views vs) (not_compared v.kind v.start v.stop h))

  pub if_far : (n : ℕ) (ts : List Lexed) (t : Lexed) (is_it : Bool) → Some t ≡ slice_get ts 0 → t.kind ≡ kind.Keyword keyword.If → fills_at text
      comparison (slice_get ts 2) ≡ is_it → GoesAsFar statement_forms (form_slots (if is_it then form.Comparison else form.Test) n ∷ []) (views ts)
  if_far n [] t is_it e h third = absurd (no_token t e)
  if_far n (u ∷ us) t true e h third =
      moved t u (kind.Keyword keyword.If) (λ x. GoesAsFar statement_forms (form_slots form.Comparison n ∷ []) (x ∷ views us)) e h
      (step statement_forms (form_slots form.Comparison n ∷ []) (at (kind.Keyword keyword.If) u.start u.stop) (views us) refl
      (comparison_far us third))
  if_far n (u ∷ us) t false e h third =
      moved t u (kind.Keyword keyword.If) (λ x. GoesAsFar statement_forms (form_slots form.Test n ∷ []) (x ∷ views us)) e h
      (step statement_forms (form_slots form.Test n ∷ []) (at (kind.Keyword keyword.If) u.start u.stop) (views us) refl (test_far us third))

  -- Behind a name and `=`: the next word tells a unary form, and what follows a binary one.
  abbrev pub copied : List Slot
  copied = operand ∷ []

  abbrev pub of_unary : List Slot
  of_unary = unary ∷ operand ∷ []

  abbrev pub of_binary : List Slot
  of_binary = operand ∷ binary ∷ operand ∷ []

  abbrev pub sources : List (List Slot)
  sources = copied ∷ of_unary ∷ of_binary ∷ []

  abbrev pub after_equals : Bool → List (List Slot)
  after_equals a = kept a copied (kept a of_unary (kept a of_binary []))

  equals_live : (a : Bool) (r : List Slot) → some_begins (after_equals a) [] ≡ some_begins (kept a r []) []
  equals_live true r = refl
  equals_live false r = refl

  equals_same : (a : Bool) (r : List Slot) (ts : List Token) → GoesAsFar sources (r ∷ []) ts → GoesAsFar (after_equals a) (kept a r []) ts
  equals_same true r ts same = same
  equals_same false r ts same = record { wrong = refl; whole = refl }

  unary_behind : (k : TokenKind) (a b : ℕ) → fills unary (at k a b).word ≡ true → behind (at k a b) sources ≡ behind (at k a b) (of_unary ∷ [])
  unary_behind kind.Name a b h = absurd (true≢false (sym h))
  unary_behind kind.Number a b h = absurd (true≢false (sym h))
  unary_behind (kind.Keyword k) a b h = refl
  unary_behind kind.Colon a b h = refl
  unary_behind kind.Equals a b h = refl
  unary_behind (kind.Operator o) a b h = refl

  -- a word that fills no unary slot, with words behind it, and with none
  binary_third : (k : TokenKind) (a b : ℕ) (t : Token) (ts : List Token) → fills unary (at k a b).word ≡ false
      → GoesAsFar sources (of_binary ∷ []) (at k a b ∷ t ∷ ts)
  binary_third kind.Name a b t ts h = step sources (of_binary ∷ []) (at kind.Name a b) (t ∷ ts) refl
      (same_behind ([] ∷ (binary ∷ operand ∷ []) ∷ []) ((binary ∷ operand ∷ []) ∷ []) t ts refl)
  binary_third kind.Number a b t ts h = step sources (of_binary ∷ []) (at kind.Number a b) (t ∷ ts) refl
      (same_behind ([] ∷ (binary ∷ operand ∷ []) ∷ []) ((binary ∷ operand ∷ []) ∷ []) t ts refl)
  binary_third (kind.Keyword k) a b t ts h =
      same_behind sources (of_binary ∷ []) (at (kind.Keyword k) a b) (t ∷ ts) (ap (λ x. kept x (operand ∷ []) []) h)
  binary_third kind.Colon a b t ts h = same_behind sources (of_binary ∷ []) (at kind.Colon a b) (t ∷ ts) (ap (λ x. kept x (operand ∷ []) []) h)
  binary_third kind.Equals a b t ts h = same_behind sources (of_binary ∷ []) (at kind.Equals a b) (t ∷ ts) (ap (λ x. kept x (operand ∷ []) []) h)
  binary_third (kind.Operator o) a b t ts h =
      same_behind sources (of_binary ∷ []) (at (kind.Operator o) a b) (t ∷ ts) (ap (λ x. kept x (operand ∷ []) []) h)

  copy_third : (k : TokenKind) (a b : ℕ) → fills unary (at k a b).word ≡ false → GoesAsFar sources (copied ∷ []) (at k a b ∷ [])
  copy_third kind.Name a b h = step sources (copied ∷ []) (at kind.Name a b) [] refl (record { wrong = refl; whole = refl })
  copy_third kind.Number a b h = step sources (copied ∷ []) (at kind.Number a b) [] refl (record { wrong = refl; whole = refl })
  copy_third (kind.Keyword k) a b h = same_behind sources (copied ∷ []) (at (kind.Keyword k) a b) [] (ap (λ x. kept x (operand ∷ []) []) h)
  copy_third kind.Colon a b h = same_behind sources (copied ∷ []) (at kind.Colon a b) [] (ap (λ x. kept x (operand ∷ []) []) h)
  copy_third kind.Equals a b h = same_behind sources (copied ∷ []) (at kind.Equals a b) [] (ap (λ x. kept x (operand ∷ []) []) h)
  copy_third (kind.Operator o) a b h = same_behind sources (copied ∷ []) (at (kind.Operator o) a b) [] (ap (λ x. kept x (operand ∷ []) []) h)

  abbrev pub equals_then : List Slot → List Slot
  equals_then r = key (codes "=") ∷ r

  with_equals : (r : List Slot) (u : Lexed) (us : List Lexed) → GoesAsFar sources (r ∷ []) (views us)
      → GoesAsFar (equals_then copied ∷ equals_then of_unary ∷ equals_then of_binary ∷ []) (equals_then r ∷ []) (views (u ∷ us))
  with_equals r u us same =
      let a = fills (key (codes "=")) (view u).word in
      step (equals_then copied ∷ equals_then of_unary ∷ equals_then of_binary ∷ []) (equals_then r ∷ []) (view u) (views us) (equals_live a r)
      (equals_same a r (views us) same)

  pub unary_far : (us : List Lexed) → fills_at text unary (slice_get us 1) ≡ true
      → GoesAsFar (equals_then copied ∷ equals_then of_unary ∷ equals_then of_binary ∷ []) (equals_then of_unary ∷ []) (views us)
  unary_far [] h = absurd (true≢false (sym h))
  unary_far (u ∷ []) h = absurd (true≢false (sym h))
  unary_far (u ∷ v ∷ vs) h =
      with_equals of_unary u (v ∷ vs) (same_behind sources (of_unary ∷ []) (view v) (views vs) (unary_behind v.kind v.start v.stop h))

  pub binary_far : (us : List Lexed) → fills_at text unary (slice_get us 1) ≡ false → 2 < length us
      → GoesAsFar (equals_then copied ∷ equals_then of_unary ∷ equals_then of_binary ∷ []) (equals_then of_binary ∷ []) (views us)
  binary_far [] h more = absurd (let never : ⊥ = omega (arith, more) in never)
  binary_far (u ∷ []) h more = absurd (let never : ⊥ = omega (arith, more) in never)
  binary_far (u ∷ v ∷ []) h more = absurd (let never : ⊥ = omega (arith, more) in never)
  binary_far (u ∷ v ∷ w ∷ ws) h more = with_equals of_binary u (v ∷ w ∷ ws) (binary_third v.kind v.start v.stop (view w) (views ws) h)

  pub copy_far : (us : List Lexed) → fills_at text unary (slice_get us 1) ≡ false → length us ≤ 2
      → GoesAsFar (equals_then copied ∷ equals_then of_unary ∷ equals_then of_binary ∷ []) (equals_then copied ∷ []) (views us)
  copy_far [] h less = record { wrong = refl; whole = refl }
  copy_far (u ∷ []) h less = with_equals copied u [] (record { wrong = refl; whole = refl })
  copy_far (u ∷ v ∷ []) h less = with_equals copied u (v ∷ []) (copy_third v.kind v.start v.stop h)
  copy_far (u ∷ v ∷ w ∷ ws) h less = absurd (let never : ⊥ = omega (arith, less) in never)

  pub name_far : (ts : List Lexed) (t : Lexed) (r : List Slot) → Some t ≡ slice_get ts 0 → t.kind ≡ kind.Name
      → ((us : List Lexed) → slice_get us 1 ≡ slice_get ts 2 → suc (length us) ≡ length ts → GoesAsFar (equals_then copied ∷ equals_then of_unary
      ∷ equals_then of_binary ∷ []) (equals_then r ∷ []) (views us)) → GoesAsFar statement_forms ((variable ∷ equals_then r) ∷ []) (views ts)
  name_far [] t r e h same = absurd (no_token t e)
  name_far (u ∷ us) t r e h same = moved t u kind.Name (λ x. GoesAsFar statement_forms ((variable ∷ equals_then r) ∷ []) (x ∷ views us)) e h
      (step statement_forms ((variable ∷ equals_then r) ∷ []) (at kind.Name u.start u.stop) (views us) refl (same us refl refl))

  -- A call: the row of as many callees as the tokens could name.
  far_call : (us : List Lexed) → GoesAsFar (led callee (further_callees 7)) ((callee ∷ further_slots 7 (length us - 1)) ∷ []) (views us)
  far_call [] = record { wrong = refl; whole = led_whole callee (further_callees 7) }
  far_call (u ∷ us) =
      led_far callee (further_callees 7) (further_slots 7 (suc (length us) - 1)) (view u) (views us) (further_live 7)
      (subst (λ r. GoesAsFar (further_callees 7) (r ∷ []) (views us)) (row_further 7 (views us) ∙ ap (further_slots 7)
      (let e : length (views us) ≡ suc (length us) - 1 = omega (arith, length-map us (token_view text)) in e)) (callee_far 7 (views us)))

  pub call_far : (ts : List Lexed) (t : Lexed) → Some t ≡ slice_get ts 0 → t.kind ≡ kind.Keyword keyword.Call
      → GoesAsFar statement_forms (form_slots form.Call (length ts) ∷ []) (views ts)
  call_far [] t e h = absurd (no_token t e)
  call_far (u ∷ us) t e h =
      moved t u (kind.Keyword keyword.Call) (λ x. GoesAsFar statement_forms (form_slots form.Call (suc (length us)) ∷ []) (x ∷ views us)) e h
      (step statement_forms (form_slots form.Call (suc (length us)) ∷ []) (at (kind.Keyword keyword.Call) u.start u.stop) (views us) refl
      (subst (λ m. GoesAsFar (led callee (further_callees 7)) ((callee ∷ further_slots 7 m) ∷ []) (views us))
      (let m : length us - 1 ≡ suc (length us) - 2 = omega arith in m) (far_call us)))
