-- How many labels stand before a statement.
use Rattle.std.proofs.Common.{◌≡◌, ℕ, suc, ◌+◌, ◌*◌, Bool, true, false, List, [], ◌∷◌, length, drop, refl, sym, ap, ◌∙◌, arith, drop-drop, true≢false}
use Rattle.std.proofs.Common.{if◌then◌else◌, ◌&&◌}
use Rattle.tac_lines.specs.Forms.{labels_of, label, fills, key}
use Rattle.tac_lines.specs.code.Views.{token_view, tokens_view, starts_label}
use Rattle.tac_lines.specs.declared.token.Token.{Token as Lexed}

pub and_true : (a b : Bool) → (a && b) ≡ true → (a && (b && true)) ≡ true
and_true true true h = refl
and_true true false h = h
and_true false b h = h

pub not_single : (a : Bool) → (a && false) ≡ true → ⊥
not_single true h = true≢false (sym h)
not_single false h = true≢false (sym h)

-- A label at the front is one of a line's labels.
labels_two : (text : List ℕ) (ts : List Lexed) → starts_label text ts ≡ true
    → length (labels_of (tokens_view text ts)) ≡ suc (length (labels_of (tokens_view text (drop 2 ts))))
labels_two text [] h = absurd (true≢false (sym h))
labels_two text (t ∷ []) h = absurd (not_single (fills label (token_view text t).word) h)
labels_two text (t ∷ u ∷ ts) h = ap (λ b. length (if b then token_view text t ∷ labels_of (tokens_view text ts) else []))
    (and_true (fills label (token_view text t).word) (fills (key (58 ∷ [])) (token_view text u).word) h)

pub count_on : (text : List ℕ) (ts : List Lexed) (at all : ℕ) → starts_label text (drop at ts) ≡ true → at + 2 * length
    (labels_of (tokens_view text (drop at ts))) ≡ 2 * all → at + 2 + 2 * length (labels_of (tokens_view text (drop (at + 2) ts))) ≡ 2 * all
count_on text ts at all h before =
    let one : length (labels_of (tokens_view text (drop at ts))) ≡ suc (length (labels_of (tokens_view text (drop (at + 2) ts)))) =
    labels_two text (drop at ts) h ∙ ap (λ r. suc (length (labels_of (tokens_view text r)))) (drop-drop 2 at ts) in
    omega (arith, one, before)
