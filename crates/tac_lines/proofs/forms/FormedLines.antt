-- Forms that are kept with their statements, and labels that are counted.
use Rattle.std.proofs.Common.{take, length-drop, ◌≡◌, ℕ, zero, suc, ◌-◌, ◌*◌, ◌<◌, ◌≤◌, All, slice_index_or, slice_range, Bool, true, false, not}
use Rattle.std.proofs.Common.{◌||◌, List, [], ◌∷◌, ◌++◌, length, drop, refl, sym, ap, ◌∙◌, arith, Option, Some, None, is_some, option_map, true≢false}
use Rattle.std.proofs.Common.{if◌then◌else◌, append-nil, codes}
use Rattle.std.specs.List.{list_any}
use Rattle.tac_lines.specs.Tokens.{Token}
use Rattle.tac_lines.specs.Forms.{Slot, key, callee, has_form, label_form, labels_of, behind_labels, statement_row, paired, cells_of, in_slot}
use Rattle.tac_lines.specs.Forms.{statements}
use Rattle.tac_lines.specs.code.Formed.{IsFormedIn, is_formed, has_role}
use Rattle.tac_lines.specs.code.Ranges.{range_view}
use Rattle.tac_lines.specs.code.Roles.{role_test}
use Rattle.tac_lines.specs.code.Views.{form_slots, further_slots}
use Rattle.tac_lines.specs.declared.form.Form.{Form}
use Rattle.tac_lines.specs.declared.form.Form.TheVariants as form
use Rattle.tac_lines.specs.declared.lexed.LineRange.{LineRange}
use Rattle.tac_lines.specs.declared.statement.Role.{Role}
use Rattle.tac_lines.specs.declared.statement.Role.TheVariants as role
use Rattle.std.proofs.lemmas.List.{length-map, drop-map, take_rest}
use Rattle.tac_lines.specs.code.Views.{token_view, tokens_view}
use Rattle.tac_lines.specs.declared.token.Token.{Token as Lexed}
use Rattle.tac_lines.proofs.forms.Rows.{row_some}
use Rattle.tac_lines.proofs.forms.RowLengths.{found_row}

abbrev row_in : ℕ → Form → Form × List Slot
row_in n f = (f, form_slots f n)

no_row : (o : Option (Form × List Slot)) → not (is_some o) ≡ true → o ≡ None
no_row None h = refl
no_row (Some r) h = absurd (true≢false (sym h))

-- The form that is kept is the table's, and the table's is kept.
pub row_of_form : (f : Option Form) (n : ℕ) (ts : List Token) → is_formed f n ts ≡ true → statement_row ts ≡ option_map (row_in n) f
row_of_form None n ts h = no_row (statement_row ts) h
row_of_form (Some f) n ts h = row_some f n (form_slots f n) ts refl h

pub form_of_row : (f : Option Form) (n : ℕ) (ts : List Token) → statement_row ts ≡ option_map (row_in n) f → is_formed f n ts ≡ true
form_of_row None n ts h = ap (λ o. not (is_some o)) h
form_of_row (Some f) n ts h = found_row ts statements (row_in n f) h

pub some_row : (f : Option Form) (n : ℕ) (ts : List Token) (some : Bool) → is_formed f n ts ≡ true → some ≡ is_some f
    → is_some (statement_row ts) ≡ some
some_row None n ts some h e = ap is_some (row_of_form None n ts h) ∙ sym e
some_row (Some f) n ts some h e = ap is_some (row_of_form (Some f) n ts h) ∙ sym e

-- What stands behind the labels stands behind twice their number.
pub behind_is : (ts : List Token) → behind_labels ts ≡ drop (2 * length (labels_of ts)) ts
behind_is [] = refl
behind_is (t ∷ []) = refl
behind_is (t ∷ u ∷ ts) = by_test (has_form label_form (t ∷ u ∷ [])) (behind_is ts) where
  by_test : (b : Bool) → behind_labels ts ≡ drop (2 * length (labels_of ts)) ts
      → (if b then behind_labels ts else t ∷ u ∷ ts) ≡ drop (2 * length (if b then t ∷ labels_of ts else [])) (t ∷ u ∷ ts)
  by_test true further =
      further ∙ sym (ap (λ n. drop n (t ∷ u ∷ ts)) (let e : 2 * length (t ∷ labels_of ts) ≡ suc (suc (2 * length (labels_of ts))) = omega arith in e))
  by_test false further = refl

pub labels_within : (ts : List Token) → 2 * length (labels_of ts) ≤ length ts
labels_within [] = omega arith
labels_within (t ∷ []) = omega arith
labels_within (t ∷ u ∷ ts) = by_test (has_form label_form (t ∷ u ∷ [])) (labels_within ts) where
  by_test : (b : Bool) → 2 * length (labels_of ts) ≤ length ts → 2 * length (if b then t ∷ labels_of ts else []) ≤ length (t ∷ u ∷ ts)
  by_test true further = omega (arith, further)
  by_test false further = omega arith

-- A form without a place of a role has no token of it.
no_place : (test : Slot → Bool) (slots : List Slot) (ts : List Token) → list_any test slots ≡ false → in_slot test (paired slots ts) ≡ []
no_place test [] ts h = refl
no_place test (s ∷ slots) [] h = refl
no_place test (s ∷ slots) (t ∷ ts) h = by_test (test s) h (no_place test slots ts) where
  by_test : (b : Bool) → (b || list_any test slots) ≡ false → (list_any test slots ≡ false → in_slot test (paired slots ts) ≡ [])
      → (if b then t ∷ in_slot test (paired slots ts) else in_slot test (paired slots ts)) ≡ []
  by_test true e further = absurd (true≢false e)
  by_test false e further = further e

no_further : (test : Slot → Bool) (n k : ℕ) → test (key (codes "|")) ≡ false → test callee ≡ false → list_any test (further_slots n k) ≡ false
no_further test zero k a b = refl
no_further test (suc n) zero a b = refl
no_further test (suc n) (suc zero) a b = λ i. a i || (b i || false)
no_further test (suc n) (suc (suc k)) a b = (λ i. a i || (b i || list_any test (further_slots n k))) ∙ no_further test n k a b

lacks : (r : Role) (f : Form) (n : ℕ) → has_role r f ≡ false → list_any (role_test r) (form_slots f n) ≡ false
lacks role.Label form.Copy n h = refl
lacks role.Label form.Unary n h = refl
lacks role.Label form.Binary n h = refl
lacks role.Label form.Jump n h = absurd (true≢false h)
lacks role.Label form.Test n h = absurd (true≢false h)
lacks role.Label form.NegatedTest n h = absurd (true≢false h)
lacks role.Label form.Comparison n h = absurd (true≢false h)
lacks role.Label form.Call n h = no_further (role_test role.Label) 7 (n - 2) refl refl
lacks role.Label form.Return n h = refl
lacks role.Label form.Read n h = refl
lacks role.Label form.Print n h = refl
lacks role.Label form.Skip n h = refl
lacks role.Callee form.Copy n h = refl
lacks role.Callee form.Unary n h = refl
lacks role.Callee form.Binary n h = refl
lacks role.Callee form.Jump n h = refl
lacks role.Callee form.Test n h = refl
lacks role.Callee form.NegatedTest n h = refl
lacks role.Callee form.Comparison n h = refl
lacks role.Callee form.Call n h = absurd (true≢false h)
lacks role.Callee form.Return n h = refl
lacks role.Callee form.Read n h = refl
lacks role.Callee form.Print n h = refl
lacks role.Callee form.Skip n h = refl
lacks role.Variable form.Copy n h = absurd (true≢false h)
lacks role.Variable form.Unary n h = absurd (true≢false h)
lacks role.Variable form.Binary n h = absurd (true≢false h)
lacks role.Variable form.Jump n h = refl
lacks role.Variable form.Test n h = absurd (true≢false h)
lacks role.Variable form.NegatedTest n h = absurd (true≢false h)
lacks role.Variable form.Comparison n h = absurd (true≢false h)
lacks role.Variable form.Call n h = no_further (role_test role.Variable) 7 (n - 2) refl refl
lacks role.Variable form.Return n h = refl
lacks role.Variable form.Read n h = absurd (true≢false h)
lacks role.Variable form.Print n h = absurd (true≢false h)
lacks role.Variable form.Skip n h = refl

pub cells_without : (r : Role) (f : Form) (n : ℕ) (ts found : List Token) → statement_row ts ≡ Some (row_in n f) → has_role r f ≡ false
    → found ≡ found ++ in_slot (role_test r) (cells_of ts)
cells_without r f n ts found e h =
    sym (append-nil found)
    ∙ ap (λ cs. found ++ cs)
    (sym (ap (λ o. in_slot (role_test r) (elim o as (λ _. List (Slot × Token)) [ None ↦ [] | Some row ↦ paired row.1 ts ])) e
    ∙ no_place (role_test r) (form_slots f n) ts (lacks r f n h)))

module _ (text : List ℕ) (tokens : List Lexed) (labels : ℕ) (counted : labels ≡ length (labels_of (tokens_view text tokens))) where
  pub twice_within : 2 * labels ≤ length tokens
  twice_within =
      let size : length (tokens_view text tokens) ≡ length tokens = length-map tokens (token_view text) in
      omega (arith, size, counted, labels_within (tokens_view text tokens))

  pub left_is : tokens_view text (take (length tokens - 2 * labels) (drop (2 * labels) tokens)) ≡ behind_labels (tokens_view text tokens)
  left_is =
      ap (tokens_view text) (take_rest tokens (2 * labels))
      ∙ sym (drop-map (token_view text) (2 * labels) tokens)
      ∙ ap (λ n. drop (2 * n) (tokens_view text tokens)) counted
      ∙ sym (behind_is (tokens_view text tokens))

  pub left_formed : (f : Option Form) → is_formed f (length tokens - 2 * labels) (behind_labels (tokens_view text tokens)) ≡ true
      → is_formed f (length (take (length tokens - 2 * labels) (drop (2 * labels) tokens)))
      (tokens_view text (take (length tokens - 2 * labels) (drop (2 * labels) tokens))) ≡ true
  left_formed f h =
      let size : length (take (length tokens - 2 * labels) (drop (2 * labels) tokens)) ≡ length tokens - 2 * labels =
      ap length (take_rest tokens (2 * labels)) ∙ length-drop (2 * labels) tokens in
      (λ i. is_formed f (size i) (left_is i)) ∙ h

-- A line whose form lacks a role, or that has no form, has no token of it.
module _ (r : Role) (text : List ℕ) (tokens : List Lexed) (lines : List LineRange) (at : ℕ) (d e : LineRange) (below : at < length lines)
    (formed : All (IsFormedIn tokens) lines) where
  any_default : (xs : List LineRange) (i : ℕ) → i < length xs → slice_index_or xs i d ≡ slice_index_or xs i e
  any_default [] i h = absurd (let never : ⊥ = omega (arith, h) in never)
  any_default (x ∷ xs) zero h = refl
  any_default (x ∷ xs) (suc i) h = any_default xs i (omega (arith, h))

  abbrev statement : List Token
  statement = behind_labels (range_view text tokens (slice_index_or lines at d))

  abbrev size : ℕ
  size = length (slice_range tokens (slice_index_or lines at d).first (slice_index_or lines at d).end) - 2 * (slice_index_or lines at d).labels

  row_is : statement_row statement ≡ option_map (row_in size) (slice_index_or lines at e).form
  row_is = row_of_form (slice_index_or lines at d).form size statement (formed at d below text)
      ∙ ap (λ l. option_map (row_in size) l.form) (any_default lines at below)

  pub no_cells : (slice_index_or lines at e).form ≡ None → in_slot (role_test r) (cells_of statement) ≡ []
  no_cells none = ap (λ o. in_slot (role_test r) (elim o as (λ _. List (Slot × Token)) [ None ↦ [] | Some row ↦ paired row.1 statement ]))
      (row_is ∙ ap (option_map (row_in size)) none)

  pub no_cells_of : (f : Form) → (slice_index_or lines at e).form ≡ Some f → has_role r f ≡ false → in_slot (role_test r) (cells_of statement) ≡ []
  no_cells_of f some lacking = sym (cells_without r f size statement [] (row_is ∙ ap (option_map (row_in size)) some) lacking)
