-- Which form of a line goes as far with its tokens as any.
use Rattle.std.proofs.Common.{◌≡◌, ℕ, zero, suc, ◌+◌, ◌<◌, ◌≤◌, Bool, true, false, ◌&&◌, List, [], ◌∷◌, length, drop, refl, sym, ap, ◌∙◌, arith}
use Rattle.std.proofs.Common.{Option, Some, None, codes, true≢false, if◌then◌else◌, slice_get, slice_range, nat_lt, ◌-◌, length-drop}
use Rattle.std.proofs.Common.{◌||◌, option_map, is_some, flat_map, ◌++◌}
use Rattle.std.proofs.lemmas.Bool.{lt-ltb, le-ltb}
use Rattle.std.proofs.Math.Bool.{or-false}
use Rattle.std.proofs.lemmas.Option.{same_Some}
use Rattle.tac_lines.specs.Tokens.{Token, stop_of}
use Rattle.tac_lines.specs.Forms.{Slot, fills, key, label, label_form, proc_form, end_form, statement_forms, some_form, first_wrong, has_form}
use Rattle.tac_lines.specs.Forms.{labels_of, behind_labels, forms_for}
use Rattle.tac_lines.specs.code.Views.{GoesAsFar, token_view, tokens_view, word_at, fills_at, line_forms, starts_label, wrong_of, is_whole, verdict}
use Rattle.tac_lines.specs.code.Views.{others_of, prefix_of, merged}
use Rattle.tac_lines.specs.LineFaults.{at, form_fault, word_fault, row_faults, first_by_place}
use Rattle.tac_lines.specs.declared.fault.Fault.{Fault}
use Rattle.tac_lines.specs.declared.refusal.RefusalKind.TheVariants.{BadByte, Syntax}
use Rattle.tac_lines.specs.declared.form.Walk.{Walk}
use Rattle.tac_lines.specs.declared.form.Walk.TheVariants.{Wrong, Unfinished, Whole}
use Rattle.tac_lines.specs.declared.token.Keyword.{Keyword}
use Rattle.tac_lines.specs.declared.token.Keyword.TheVariants as keyword
use Rattle.tac_program.specs.declared.program.Op.{Op}
use Rattle.tac_program.specs.declared.program.Op.TheVariants as op
use Rattle.tac_lines.specs.declared.token.TokenKind.{TokenKind}
use Rattle.tac_lines.specs.declared.token.TokenKind.TheVariants as kind
use Rattle.tac_lines.specs.declared.token.Token.{Token as Lexed}
use Rattle.tac_lines.proofs.forms.Table.{behind, same_behind}
use Rattle.tac_lines.proofs.forms.LabelCounts.{and_true, not_single}

pub far_trans : (fs gs hs : List (List Slot)) (ts : List Token) → GoesAsFar fs gs ts → GoesAsFar gs hs ts → GoesAsFar fs hs ts
far_trans fs gs hs ts a b = record { wrong = a.wrong ∙ b.wrong; whole = a.whole ∙ b.whole }

pub outside_far : (inside labelled : Bool) (ts : List Token) → inside ≡ false → 0 < length ts
    → GoesAsFar (line_forms inside labelled) (proc_form ∷ []) ts
outside_far true labelled ts h some = absurd (true≢false h)
outside_far false labelled [] h some = absurd (let never : ⊥ = omega (arith, some) in never)
outside_far false labelled (t ∷ ts) h some = same_behind ([] ∷ proc_form ∷ []) (proc_form ∷ []) t ts refl

module _ (text : List ℕ) where
  token_at : TokenKind → ℕ → ℕ → Token
  token_at k a b = record { word = word_at (slice_range text a b) k; start = a; stop = b }

  keyword_alone : (k : Keyword) (a b : ℕ) → fills (key (codes "end")) (token_at (kind.Keyword k) a b).word ≡ true
      → behind (token_at (kind.Keyword k) a b) statement_forms ≡ []
  unfolding token_at
  keyword_alone keyword.End a b h = refl
  keyword_alone _ a b h = absurd (true≢false (sym h))

  operator_alone : (o : Op) (a b : ℕ) → fills (key (codes "end")) (token_at (kind.Operator o) a b).word ≡ true → ⊥
  unfolding token_at
  operator_alone op.Plus a b h = true≢false (sym h)
  operator_alone _ a b h = true≢false (sym h)

  -- no statement begins with `end`
  alone : (k : TokenKind) (a b : ℕ) → fills (key (codes "end")) (token_at k a b).word ≡ true → behind (token_at k a b) statement_forms ≡ []
  unfolding token_at
  alone kind.Name a b h = absurd (true≢false (sym h))
  alone kind.Number a b h = absurd (true≢false (sym h))
  alone kind.Colon a b h = absurd (true≢false (sym h))
  alone kind.Equals a b h = absurd (true≢false (sym h))
  alone (kind.Keyword k) a b h = keyword_alone k a b h
  alone (kind.Operator o) a b h = absurd (operator_alone o a b h)

  chosen : (a : Bool) (fs : List (List Slot)) → a ≡ true → fs ≡ [] → (if a then [] ∷ fs else fs) ≡ (let r : List (List Slot) = [] ∷ [] in r)
  chosen true fs h e = ap (λ r. let s : List (List Slot) = [] ∷ r in s) e
  chosen false fs h e = absurd (true≢false (sym h))

  pub end_far : (inside labelled : Bool) (ts : List Lexed) → inside ≡ true → labelled ≡ false
      → fills_at text (key (codes "end")) (slice_get ts 0) ≡ true → GoesAsFar (line_forms inside labelled) (end_form ∷ []) (tokens_view text ts)
  unfolding token_at
  end_far false labelled ts i l h = absurd (true≢false (sym i))
  end_far true true ts i l h = absurd (true≢false l)
  end_far true false [] i l h = absurd (true≢false (sym h))
  end_far true false (t ∷ ts) i l h =
      same_behind ([] ∷ end_form ∷ statement_forms) (end_form ∷ []) (token_view text t) (tokens_view text ts)
      (chosen (fills (key (codes "end")) (token_view text t).word) (behind (token_view text t) statement_forms) h (alone t.kind t.start t.stop h)
      ∙ sym (chosen (fills (key (codes "end")) (token_view text t).word) [] h refl))

  skipped : (a : Bool) (fs : List (List Slot)) → a ≡ false → (if a then [] ∷ fs else fs) ≡ fs
  skipped true fs h = absurd (true≢false h)
  skipped false fs h = refl

  pub statement_far : (inside labelled : Bool) (ts : List Lexed) (row : List Slot) → inside ≡ true → labelled ≡ false → 0 < length ts
      → fills_at text (key (codes "end")) (slice_get ts 0) ≡ false → GoesAsFar statement_forms (row ∷ []) (tokens_view text ts)
      → GoesAsFar (line_forms inside labelled) (row ∷ []) (tokens_view text ts)
  statement_far false labelled ts row i l some h far = absurd (true≢false (sym i))
  statement_far true true ts row i l some h far = absurd (true≢false l)
  statement_far true false [] row i l some h far = absurd (let never : ⊥ = omega (arith, some) in never)
  statement_far true false (t ∷ ts) row i l some h far =
      far_trans ([] ∷ end_form ∷ statement_forms) statement_forms (row ∷ []) (tokens_view text (t ∷ ts))
      (same_behind ([] ∷ end_form ∷ statement_forms) statement_forms (token_view text t) (tokens_view text ts)
      (skipped (fills (key (codes "end")) (token_view text t).word) (behind (token_view text t) statement_forms) h))
      far

  pub labelled_far : (inside labelled : Bool) (ts : List Lexed) (row : List Slot) → inside ≡ true → labelled ≡ true → 0 < length ts
      → GoesAsFar statement_forms (row ∷ []) (tokens_view text ts) → GoesAsFar (line_forms inside labelled) (row ∷ []) (tokens_view text ts)
  labelled_far false labelled ts row i l some far = absurd (true≢false (sym i))
  labelled_far true false ts row i l some far = absurd (true≢false (sym l))
  labelled_far true true [] row i l some far = absurd (let never : ⊥ = omega (arith, some) in never)
  labelled_far true true (t ∷ ts) row i l some far =
      far_trans ([] ∷ statement_forms) statement_forms (row ∷ []) (tokens_view text (t ∷ ts))
      (same_behind ([] ∷ statement_forms) statement_forms (token_view text t) (tokens_view text ts) refl)
      far

-- Labels at the front, two tokens each.
module _ (text : List ℕ) where
  and_false : (a b : Bool) → (a && b) ≡ false → (a && (b && true)) ≡ false
  and_false true true h = h
  and_false true false h = refl
  and_false false b h = refl

  pub label_step : (ts : List Lexed) → starts_label text ts ≡ true → (behind_labels (tokens_view text ts)
      ≡ behind_labels (tokens_view text (drop 2 ts))) × (forms_for true (labels_of (tokens_view text ts)) ≡ line_forms true true) × (2 ≤ length ts)
  label_step [] h = absurd (true≢false (sym h))
  label_step (t ∷ []) h = absurd (not_single (fills_at text label (Some t)) h)
  label_step (t ∷ u ∷ ts) h =
      let both : has_form label_form (token_view text t ∷ token_view text u ∷ []) ≡ true =
      and_true (fills_at text label (Some t)) (fills_at text (key (codes ":")) (Some u)) h in (
        ap (λ b. if b then behind_labels (tokens_view text ts) else tokens_view text (t ∷ u ∷ ts)) both,
        ap (λ b. forms_for true (if b then token_view text t ∷ labels_of (tokens_view text ts) else [])) both,
        omega arith,
      )

  pub label_stop : (ts : List Lexed) → starts_label text ts ≡ false
      → (behind_labels (tokens_view text ts) ≡ tokens_view text ts) × (labels_of (tokens_view text ts) ≡ [])
  label_stop [] h = (refl, refl)
  label_stop (t ∷ []) h = (refl, refl)
  label_stop (t ∷ u ∷ ts) h =
      let neither : has_form label_form (token_view text t ∷ token_view text u ∷ []) ≡ false =
      and_false (fills_at text label (Some t)) (fills_at text (key (codes ":")) (Some u)) h in (
        ap (λ b. if b then behind_labels (tokens_view text ts) else tokens_view text (t ∷ u ∷ ts)) neither,
        ap (λ b. if b then token_view text t ∷ labels_of (tokens_view text ts) else []) neither,
      )

pub get-drop : (n k : ℕ) (ts : List Lexed) → slice_get (drop n ts) k ≡ slice_get ts (n + k)
get-drop zero k ts = ap (slice_get ts) (let e : k ≡ 0 + k = omega arith in e)
get-drop (suc n) k [] = sym (ap (slice_get (let r : List Lexed = [] in r)) (let e : suc n + k ≡ suc (n + k) = omega arith in e)) ∙ refl
get-drop (suc n) k (t ∷ ts) = get-drop n k ts ∙ sym (ap (slice_get (t ∷ ts)) (let e : suc n + k ≡ suc (n + k) = omega arith in e))

pub label_end : (text : List ℕ) (n : ℕ) (ts : List Lexed) → n ≤ length ts
    → (0 < n → forms_for true (labels_of (tokens_view text ts)) ≡ line_forms true true) → labels_of (tokens_view text (drop n ts)) ≡ []
    → forms_for true (labels_of (tokens_view text ts)) ≡ line_forms true (nat_lt (length (drop n ts)) (length ts))
label_end text zero ts h before none = ap (forms_for true) none ∙ ap (line_forms true) (sym (not_below (length ts)))
  where
    not_below : (n : ℕ) → nat_lt n n ≡ false
    not_below n = le-ltb n n (omega arith)
label_end text (suc n) ts h before none =
    before (omega arith) ∙ ap (line_forms true) (sym (lt-ltb (length (drop (suc n) ts)) (length ts)
    (let e : length (drop (suc n) ts) ≡ length ts - suc n = length-drop (suc n) ts in omega (arith, e, h))))

pub labelled_on : (text : List ℕ) (n : ℕ) (ts : List Lexed) → (0 < n → forms_for true (labels_of (tokens_view text ts)) ≡ line_forms true true)
    → forms_for true (labels_of (tokens_view text (drop n ts))) ≡ line_forms true true
    → forms_for true (labels_of (tokens_view text ts)) ≡ line_forms true true
labelled_on text zero ts before here = here
labelled_on text (suc n) ts before here = before (omega arith)

-- What the walk along the one form that can win tells of all.
abbrev pub judge : List (List Slot) → List Token → Bool → ℕ → List Fault
judge fs ts cut stop =
    elim (first_wrong fs [] ts) as (λ _. List Fault) [ Some t ↦ at Syntax t.start | None ↦ (if some_form fs ts || cut then [] else at Syntax stop) ]

pub judged : (fs : List (List Slot)) (slots : List Slot) (ts : List Token) (w : Walk) (cut : Bool) (stop : ℕ) → GoesAsFar fs (slots ∷ []) ts
    → option_map (λ t. t.start) (first_wrong (slots ∷ []) [] ts) ≡ wrong_of w → has_form slots ts ≡ is_whole w
    → judge fs ts cut stop ≡ verdict w cut stop
judged fs slots ts w cut stop far wrong whole =
    go (first_wrong (slots ∷ []) [] ts) (some_form (slots ∷ []) ts) w far.wrong far.whole wrong (or-false (has_form slots ts) ∙ whole)
  where
    go : (o : Option Token) (a : Bool) (v : Walk) → first_wrong fs [] ts ≡ o → some_form fs ts ≡ a → option_map (λ t. t.start) o ≡ wrong_of v
        → a ≡ is_whole v → (elim (first_wrong fs [] ts) as (λ _.
        List Fault) [ Some t ↦ at Syntax t.start | None ↦ (if some_form fs ts || cut then [] else at Syntax stop) ]) ≡ verdict v cut stop
    go (Some t) a (Wrong p) e f h k =
        ap (λ o. elim o as (λ _. List Fault) [ Some u ↦ at Syntax u.start | None ↦ (if some_form fs ts || cut then [] else at Syntax stop) ]) e
        ∙ ap (at Syntax) (same_Some t.start p h)
    go (Some t) a Unfinished e f h k = absurd (cc h)
    go (Some t) a Whole e f h k = absurd (cc h)
    go None a (Wrong p) e f h k = absurd (cc h)
    go None a Unfinished e f h k =
        ap (λ o. elim o as (λ _. List Fault) [ Some u ↦ at Syntax u.start | None ↦ (if some_form fs ts || cut then [] else at Syntax stop) ]) e
        ∙ ap (λ b. if b || cut then [] else at Syntax stop) (f ∙ k)
    go None a Whole e f h k =
        ap (λ o. elim o as (λ _. List Fault) [ Some u ↦ at Syntax u.start | None ↦ (if some_form fs ts || cut then [] else at Syntax stop) ]) e
        ∙ ap (λ b. if b || cut then [] else at Syntax stop) (f ∙ k)

-- A line with nothing behind its labels is whole.
pub judged_empty : (inside labelled cut : Bool) (stop : ℕ) → judge (line_forms inside labelled) [] cut stop ≡ []
judged_empty false labelled cut stop = refl
judged_empty true false cut stop = refl
judged_empty true true cut stop = refl

pub form_fault_is : (inside labelled : Bool) (ts others : List Token) (bad : Option ℕ) → others ≡ others_of inside ts
    → forms_for inside (prefix_of inside ts) ≡ line_forms inside labelled
    → form_fault inside (record { tokens = ts; bad = bad }) ≡ judge (line_forms inside labelled) others (is_some bad) (stop_of ts)
form_fault_is inside labelled ts others bad e f = λ i. judge (f i) (sym e i) (is_some bad) (stop_of ts)

-- The end of the last token.
pub last_stop : (text : List ℕ) (ts : List Lexed) (t : Lexed) → Some t ≡ slice_get ts (length ts - 1) → stop_of (tokens_view text ts) ≡ t.stop
last_stop text [] t e = absurd (cc e)
last_stop text (u ∷ []) t e = sym (ap (λ x. x.stop) (same_Some t u e))
last_stop text (u ∷ v ∷ vs) t e =
    last_stop text (v ∷ vs) t (e ∙ ap (slice_get (u ∷ v ∷ vs)) (let n : suc (suc (length vs)) - 1 ≡ suc (suc (length vs) - 1) = omega arith in n))

-- All faults of a line: the bad byte's before the others.
pub row_none : (inside : Bool) (text : List ℕ) (ts : List Lexed) (bad : Option ℕ) (n : ℕ) (first : Option Fault) → n ≤ 0 → bad ≡ None → first
    ≡ first_by_place (flat_map word_fault (tokens_view text (drop n ts)) ++ form_fault inside (record { tokens = tokens_view text ts; bad = bad }))
    → first ≡ first_by_place (row_faults inside (record { tokens = tokens_view text ts; bad = bad }))
row_none inside text ts None zero first h e f = f
row_none inside text ts (Some b) zero first h e f = absurd (cc e)
row_none inside text ts bad (suc n) first h e f = absurd (let never : ⊥ = omega (arith, h) in never)

pub row_some : (inside : Bool) (text : List ℕ) (ts : List Lexed) (bad : Option ℕ) (n place : ℕ) (first found : Option Fault) → n ≤ 0
    → bad ≡ Some place → found ≡ merged (Some (record { kind = BadByte; place = place })) first → first
    ≡ first_by_place (flat_map word_fault (tokens_view text (drop n ts)) ++ form_fault inside (record { tokens = tokens_view text ts; bad = bad }))
    → found ≡ first_by_place (row_faults inside (record { tokens = tokens_view text ts; bad = bad }))
row_some inside text ts None zero place first found h e g f = absurd (cc e)
row_some inside text ts (Some b) zero place first found h e g f =
    g ∙ ap (λ p. merged (Some (record { kind = BadByte; place = p })) first) (same_Some place b (sym e))
    ∙ ap (merged (Some (record { kind = BadByte; place = b }))) f
row_some inside text ts bad (suc n) place first found h e g f = absurd (let never : ⊥ = omega (arith, h) in never)

-- Tokens whose first does not fit have no form that begins so.
pub no_front : (text : List ℕ) (s : Slot) (slots : List Slot) (ts : List Lexed) → fills_at text s (slice_get ts 0) ≡ false
    → has_form (s ∷ slots) (tokens_view text ts) ≡ false
no_front text s slots [] h = refl
no_front text s slots (t ∷ ts) h = ap (λ b. b && has_form slots (tokens_view text ts)) h
