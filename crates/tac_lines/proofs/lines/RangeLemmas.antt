-- Lines by the places of their tokens, as tokens and lines are put last.
use Rattle.std.proofs.Common.{◌≡◌, ℕ, zero, suc, ◌+◌, ◌-◌, ◌*◌, ◌<◌, ◌≤◌, List, [], ◌∷◌, ◌++◌, length, take, drop, refl, sym, ap, subst, ◌∙◌}
use Rattle.std.proofs.Common.{arith, slice_range, slice_index_or, ◌==◌, false, true≢false, IsTrue, length-append, None}
use Rattle.std.proofs.lemmas.List.{take-append-le, map_push}
use Rattle.std.proofs.lemmas.List.Elements.{All-push}
use Rattle.std.proofs.Math.Seq.{take-length}
use Rattle.tac_lines.specs.Forms.{behind_labels, labels_of}
use Rattle.tac_lines.specs.code.Formed.{AreLines, IsCountedIn, IsFormedIn, is_formed}
use Rattle.tac_lines.specs.code.Views.{tokens_view}
use Rattle.tac_lines.specs.code.Ranges.{EndsWithin, range_views}
use Rattle.tac_lines.specs.code.Lexed.{some_of}
use Rattle.tac_lines.specs.declared.lexed.LineRange.{LineRange}
use Rattle.tac_lines.specs.declared.token.Token.{Token}

-- A line where there is none.
pub no_line : LineRange
no_line = record { first = 0; end = 0; labels = 0; form = None }

range_stays : (a b : ℕ) (ts row : List Token) → b ≤ length ts → slice_range (ts ++ row) a b ≡ slice_range ts a b
range_stays zero b ts row h = let l : b - 0 ≤ length ts = omega (arith, h) in take-append-le (b - 0) ts row l
range_stays (suc a) b [] row h = (λ i. take (none i) (drop (suc a) row)) ∙ sym (λ i. take (none i) (let r : List Token = [] in r)) where
  none : b - suc a ≡ 0
  none = omega (arith, h)
range_stays (suc a) zero (t ∷ ts) row h = (λ i. take (none i) (drop a (ts ++ row))) ∙ sym (λ i. take (none i) (drop a ts)) where
  none : 0 - suc a ≡ 0
  none = omega arith
range_stays (suc a) (suc b) (t ∷ ts) row h =
    (λ i. take (less i) (drop a (ts ++ row))) ∙ range_stays a b ts row (omega (arith, h)) ∙ sym (λ i. take (less i) (drop a ts)) where
      less : suc b - suc a ≡ b - a
      less = omega arith

views_stay : (ts row : List Token) (lines : List LineRange) → EndsWithin (length ts) lines → range_views (ts ++ row) lines ≡ range_views ts lines
views_stay ts row [] h = refl
views_stay ts row (l ∷ ls) h =
    (λ i. range_stays l.first l.end ts row (h 0 l (omega arith)) i ∷ views_stay ts row ls (λ k d below. h (suc k) d (omega (arith, below))) i)

last_views : (ts row : List Token) → slice_range (ts ++ row) (length ts) (length (ts ++ row)) ≡ row
last_views [] row = take_whole row where
  take_whole : (xs : List Token) → take (length xs - 0) xs ≡ xs
  take_whole xs = ap (λ n. take n xs) (let e : length xs - 0 ≡ length xs = omega arith in e) ∙ take-length xs
last_views (t ∷ ts) row = ap (λ n. take n (drop (length ts) (ts ++ row)))
    (let e : suc (length (ts ++ row)) - suc (length ts) ≡ length (ts ++ row) - length ts = omega arith in e) ∙ last_views ts row

pub views_push : (ts row all : List Token) (lines more : List LineRange) (line : LineRange) → EndsWithin (length ts) lines → all ≡ ts ++ row
    → more ≡ lines ++ line ∷ [] → line.first ≡ length ts → line.end ≡ length all → 0 < length row
    → range_views all more ≡ range_views ts lines ++ some_of row
views_push ts row all lines more line h e f a b some =
    (λ i. range_views (e i) (f i))
    ∙ map_push (λ line. slice_range (ts ++ row) line.first line.end) lines line
    ∙ (λ i. views_stay ts row lines h i ++ ((λ j. slice_range (ts ++ row) (a j) ((b ∙ ap length e) j)) ∙ last_views ts row) i ∷ [])
    ∙ ap (λ r. range_views ts lines ++ r) (line_of row some)
  where
    line_of : (xs : List Token) → 0 < length xs → xs ∷ [] ≡ some_of xs
    line_of [] l = absurd (let never : ⊥ = omega (arith, l) in never)
    line_of (x ∷ xs) l = refl

-- One line more, of the tokens that are put last.
pub lines_push : (ts row all : List Token) (lines more : List LineRange) (line : LineRange) → AreLines ts lines → all ≡ ts ++ row → more ≡ lines
    ++ line ∷ [] → line.first ≡ length ts → line.end ≡ length all → ((text : List ℕ) → line.labels ≡ length (labels_of (tokens_view text row)))
    → ((text : List ℕ) → IsTrue (is_formed line.form (length row - 2 * line.labels) (behind_labels (tokens_view text row)))) → AreLines all more
lines_push ts row all lines more line h e f a b labels form =
    let tokens = ts ++ row in
    let here : slice_range tokens line.first line.end ≡ row = (λ j. slice_range tokens (a j) ((b ∙ ap length e) j)) ∙ last_views ts row in
    let longer : length tokens ≡ length ts + length row = length-append ts row in
    let stays = λ (k : ℕ) (d : LineRange) (below : k < length lines).
    range_stays (slice_index_or lines k d).first (slice_index_or lines k d).end ts row (h.within k d below) in
    let pushed : AreLines tokens (lines ++ line ∷ []) = record {
      within = All-push (λ l. l.end ≤ length tokens) lines line
          (λ k d below. let old : (slice_index_or lines k d).end ≤ length ts = h.within k d below in omega (arith, old, longer))
          (let size : line.end ≡ length tokens = b ∙ ap length e in omega (arith, size));
      counted = All-push (IsCountedIn tokens) lines line
          (λ k d below text. h.counted k d below text ∙ ap (λ r. length (labels_of (tokens_view text r))) (sym (stays k d below)))
          (λ text. labels text ∙ ap (λ r. length (labels_of (tokens_view text r))) (sym here));
      formed = All-push (IsFormedIn tokens) lines line
          (λ k d below text. subst (λ r. IsTrue
          (is_formed (slice_index_or lines k d).form (length r - 2 * (slice_index_or lines k d).labels) (behind_labels (tokens_view text r))))
          (sym (stays k d below)) (h.formed k d below text))
          (λ text.
          subst (λ r. IsTrue (is_formed line.form (length r - 2 * line.labels) (behind_labels (tokens_view text r)))) (sym here) (form text));
    } in
    subst (λ xs. AreLines xs more) (sym e) (subst (AreLines tokens) (sym f) pushed)

pub not_empty : (xs : List Token) → (length xs == 0) ≡ false → 0 < length xs
not_empty [] h = absurd (true≢false h)
not_empty (x ∷ xs) h = omega arith
