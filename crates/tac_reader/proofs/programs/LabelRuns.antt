-- Labels, one line after another.
use Rattle.std.proofs.Common.{◌≡◌, ℕ, zero, suc, ◌+◌, ◌<◌, ◌≤◌, List, [], ◌∷◌, ◌++◌, length, map, drop, refl, sym, ap, ◌∙◌, subst, arith}
use Rattle.std.proofs.Common.{slice_index_or, length-append, append_assoc}
use Rattle.std.specs.List.Sorted.{IsNonDecreasing}
use Rattle.std.proofs.lemmas.List.{at_drop_more}
use Rattle.tac_lines.specs.Tokens.{Token, unless_empty}
use Rattle.tac_lines.specs.Forms.{labels_of, behind_labels}
use Rattle.tac_reader.specs.code.Procedures.{labels_at}
use Rattle.tac_program.specs.Programs.{LabelsRise}
use Rattle.tac_reader.specs.Parses.{label_places, labels_from}
use Rattle.tac_lines.specs.code.Ranges.{range_view}
use Rattle.tac_lines.specs.code.Views.{tokens_view}
use Rattle.tac_program.specs.declared.program.Label.{Label}
use Rattle.tac_lines.specs.declared.lexed.LineRange.{LineRange}
use Rattle.tac_lines.specs.declared.token.Token.{Token as Lexed}

length-snoc : (labels : List Label) (l : Label) → length (labels ++ l ∷ []) ≡ suc (length labels)
length-snoc labels l = length-append labels (l ∷ []) ∙ omega arith

-- One label more.
pub push_one : (labels pushed : List Label) (name place left rest : ℕ) (whole : List Label)
    → pushed ≡ labels ++ record { name = name; place = place } ∷ [] → name ≡ length labels → left ≡ suc rest
    → labels ++ labels_at (length labels) place left ≡ whole → pushed ++ labels_at (length pushed) place rest ≡ whole
push_one labels pushed name place left rest whole added named less before =
    let one : Label = record { name = name; place = place } in
    let size : length pushed ≡ suc (length labels) = ap length added ∙ length-snoc labels one in
    (λ i. added i ++ labels_at (size i) place rest)
    ∙ append_assoc labels (one ∷ []) (labels_at (suc (length labels)) place rest)
    ∙ ap (λ n. labels ++ record { name = n; place = place } ∷ labels_at (suc (length labels)) place rest) named
    ∙ ap (λ n. labels ++ labels_at (length labels) place n) (sym less)
    ∙ before

length-labels_at : (n place count : ℕ) → length (labels_at n place count) ≡ count
length-labels_at n place zero = refl
length-labels_at n place (suc count) = ap suc (length-labels_at (suc n) place count)

-- The labels of one line, and those of the others.
labels_run : (n place : ℕ) (ts : List Token) (places : List ℕ)
    → labels_from n (map (λ t. place) ts ++ places) ≡ labels_at n place (length ts) ++ labels_from (n + length ts) places
labels_run n place [] places = ap (λ k. labels_from k places) (let e : n ≡ n + 0 = omega arith in e)
labels_run n place (t ∷ ts) places =
    ap (λ r. record { name = n; place = place } ∷ r)
    (labels_run (suc n) place ts places
    ∙ ap (λ k. labels_at (suc n) place (length ts) ++ labels_from k places) (let e : suc n + length ts ≡ n + suc (length ts) = omega arith in e))

-- One line more.
pub line_on : (labels pushed : List Label) (place next count : ℕ) (line : List Token) (others : List (List Token)) (whole : List Label)
    → pushed ≡ labels ++ labels_at (length labels) place count → count ≡ length (labels_of line)
    → next ≡ place + length (unless_empty (behind_labels line)) → labels ++ labels_from (length labels) (label_places place (line ∷ others)) ≡ whole
    → pushed ++ labels_from (length pushed) (label_places next others) ≡ whole
line_on labels pushed place next count line others whole added counted moved before =
    let run = labels_at (length labels) place count in
    let size : length pushed ≡ length labels + length (labels_of line) =
    ap length added ∙ length-append labels run ∙ ap (λ n. length labels + n) (length-labels_at (length labels) place count ∙ counted) in
    (λ i. added i ++ labels_from (size i) (label_places (moved i) others))
    ∙ append_assoc labels run
    (labels_from (length labels + length (labels_of line)) (label_places (place + length (unless_empty (behind_labels line))) others))
    ∙ ap (λ k. labels ++ (labels_at (length labels) place k
    ++ labels_from (length labels + length (labels_of line)) (label_places (place + length (unless_empty (behind_labels line))) others))) counted
    ∙ ap (λ r. labels ++ r)
    (sym (labels_run (length labels) place (labels_of line) (label_places (place + length (unless_empty (behind_labels line))) others)))
    ∙ before

-- The places of labels are what they were made of.
places_are : (n : ℕ) (places : List ℕ) → map (λ l. l.place) (labels_from n places) ≡ places
places_are n [] = refl
places_are n (place ∷ places) = ap (λ r. place ∷ r) (places_are (suc n) places)

-- No place is below a number, and none below the one before it.
data Rising : ℕ → List ℕ → Type 0 where
  none : (low : ℕ) → Rising low []
  some : (low place : ℕ) (places : List ℕ) → low ≤ place → Rising place places → Rising low (place ∷ places)

lower : (low high : ℕ) (places : List ℕ) → low ≤ high → Rising high places → Rising low places
lower low high _ h (none _) = none low
lower low high _ h (some _ place places k r) = some low place places (omega arith) r

same_place : (place next : ℕ) (ts : List Token) (places : List ℕ) → place ≤ next → Rising next places → Rising place (map (λ t. place) ts ++ places)
same_place place next [] places h r = lower place next places h r
same_place place next (t ∷ ts) places h r = some place place (map (λ t. place) ts ++ places) (omega arith) (same_place place next ts places h r)

places_rise : (place : ℕ) (body : List (List Token)) → Rising place (label_places place body)
places_rise place [] = none place
places_rise place (line ∷ others) =
    let next = place + length (unless_empty (behind_labels line)) in
    same_place place next (labels_of line) (label_places next others) (omega arith) (places_rise next others)

above : (low : ℕ) (places : List ℕ) → Rising low places → (j d : ℕ) → j < length places → low ≤ slice_index_or places j d
above low _ (none _) j d h = absurd (let never : ⊥ = omega (arith, h) in never)
above low _ (some _ place places k r) zero d h = k
above low _ (some _ place places k r) (suc j) d h =
    let further : place ≤ slice_index_or places j d = above place places r j d (omega (arith, h)) in
    omega arith

rising : (low : ℕ) (places : List ℕ) → Rising low places → IsNonDecreasing places
rising low _ (none _) i j d h within = absurd (let never : ⊥ = omega (arith, within) in never)
rising low _ (some _ place places k r) zero zero d h within = omega arith
rising low _ (some _ place places k r) zero (suc j) d h within = above place places r j d (omega (arith, within))
rising low _ (some _ place places k r) (suc i) zero d h within = absurd (let never : ⊥ = omega (arith, h) in never)
rising low _ (some _ place places k r) (suc i) (suc j) d h within = rising place places r i j d (omega (arith, h)) (omega (arith, within))

pub labels_rise : (labels : List Label) (body : List (List Token)) → labels ≡ labels_from 0 (label_places 0 body) → LabelsRise labels
labels_rise labels body e =
    subst IsNonDecreasing (sym (ap (map (λ l. l.place)) e ∙ places_are 0 (label_places 0 body))) (rising 0 (label_places 0 body) (places_rise 0 body))

-- One line of the code's more.
pub lines_on : (text : List ℕ) (all : List Lexed) (lines : List LineRange) (at : ℕ) (d : LineRange) (tokens : List Lexed) (labels pushed : List Label)
    (place named next count : ℕ) (whole : List Label) → at < length lines → tokens_view text tokens
    ≡ behind_labels (range_view text all (slice_index_or lines at d)) → count ≡ length (labels_of (range_view text all (slice_index_or lines at d)))
    → pushed ≡ labels ++ labels_at (length labels) named count → named ≡ place → next ≡ place + length (unless_empty (tokens_view text tokens))
    → labels ++ labels_from (length labels) (label_places place (map (range_view text all) (drop at lines))) ≡ whole
    → pushed ++ labels_from (length pushed) (label_places next (map (range_view text all) (drop (at + 1) lines))) ≡ whole
lines_on text all lines at d tokens labels pushed place named next count whole below behind counted added here moved before =
    let line = slice_index_or lines at d in
    line_on labels pushed place next count (range_view text all line) (map (range_view text all) (drop (at + 1) lines)) whole
    (added ∙ ap (λ p. labels ++ labels_at (length labels) p count) here)
    counted
    (moved ∙ ap (λ ts. place + length (unless_empty ts)) behind)
    (sym (at_drop_more (λ rest. labels ++ labels_from (length labels) (label_places place (map (range_view text all) rest))) lines at d below)
    ∙ before)
