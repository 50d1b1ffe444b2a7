-- Procedures and labels, one line after another.
use Rattle.std.proofs.Common.{◌≡◌, ℕ, suc, ◌+◌, ◌-◌, ◌<◌, ◌≤◌, Bool, true, false, cond, List, [], ◌∷◌, ◌++◌, length, map, take, drop}
use Rattle.std.proofs.Common.{refl, sym, ap, ◌∙◌, arith, true≢false, if◌then◌else◌, slice_index_or, take_while, drop-drop}
use Rattle.std.proofs.Common.{slice_range, append_assoc, append-nil, flat_map}
use Rattle.std.specs.List.{prefix_len}
use Rattle.std.proofs.Math.Seq.{drop-cons}
use Rattle.std.proofs.lemmas.Grind.{flat_map-append}
use Rattle.std.proofs.lemmas.List.{map-append, take-map, get_or-drop}
use Rattle.tac_lines.specs.Tokens.{Token, unless_empty}
use Rattle.tac_lines.specs.Forms.{proc_form, behind_labels, has_form, labels_of, label, key, fills, is_inner}
use Rattle.tac_reader.specs.Sections.{Section, opened_by, sections_in, statements_of}
use Rattle.tac_lines.specs.code.Ranges.{range_view}
use Rattle.tac_lines.specs.code.Views.{token_view, tokens_view, starts_label}
use Rattle.tac_reader.specs.code.SectionViews.{lines_view, section_view, sections_view}
use Rattle.tac_lines.specs.declared.formed.Lines.{Lines}
use Rattle.tac_lines.specs.declared.lexed.LineRange.{LineRange}
use Rattle.tac_reader.specs.declared.section.Section.{Section as Read}
use Rattle.tac_lines.specs.declared.token.Token.{Token as Lexed}
use Rattle.tac_lines.proofs.forms.LabelCounts.{and_true, not_single}

module _ {L : Type 0} where
  pub rest_at : (xs : List L) (i : ℕ) (d : L) → i < length xs → drop i xs ≡ slice_index_or xs i d ∷ drop (i + 1) xs
  rest_at xs i d h = drop-cons xs i d h ∙ ap (λ k. slice_index_or xs i d ∷ drop k xs) (let e : suc i ≡ i + 1 = omega arith in e)

-- A run of elements from the front on.
module _ {L T : Type 0} (p : T → Bool) (f : L → T) where
  abbrev run : List L → ℕ
  run xs = prefix_len p (map f xs)

  pub run_on : (xs : List L) (i : ℕ) (d : L) (total : ℕ) → i < length xs → p (f (slice_index_or xs i d)) ≡ true
      → i + prefix_len p (map f (drop i xs)) ≡ total → i + 1 + prefix_len p (map f (drop (i + 1) xs)) ≡ total
  run_on xs i d total below holds before =
      let one : run (drop i xs) ≡ 1 + run (drop (i + 1) xs) = ap run (rest_at xs i d below) ∙ ap (λ b. cond b (1 + run (drop (i + 1) xs)) 0) holds in
      omega (arith, one, before)

  pub run_stops : (xs : List L) (i : ℕ) (d : L) → i < length xs → p (f (slice_index_or xs i d)) ≡ false → prefix_len p (map f (drop i xs)) ≡ 0
  run_stops xs i d below fails = ap run (rest_at xs i d below) ∙ ap (λ b. cond b (1 + run (drop (i + 1) xs)) 0) fails

  pub run_is : (xs : List L) (first i : ℕ) → first ≤ i → i + prefix_len p (map f (drop i xs)) ≡ first + prefix_len p (map f (drop first xs))
      → prefix_len p (map f (drop i xs)) ≡ 0 → map f (take (i - first) (drop first xs)) ≡ take_while p (map f (drop first xs))
  run_is xs first i order before none =
      sym (take-map f (i - first) (drop first xs))
      ∙ ap (λ n. take n (map f (drop first xs))) (let e : i - first ≡ prefix_len p (map f (drop first xs)) = omega (arith, order, before, none) in e)

module _ (text : List ℕ) where
  labels_step : (ts : List Lexed) (d : Lexed) → starts_label text ts ≡ true
      → labels_of (tokens_view text ts) ≡ token_view text (slice_index_or ts 0 d) ∷ labels_of (tokens_view text (drop 2 ts))
  labels_step [] d h = absurd (true≢false (sym h))
  labels_step (t ∷ []) d h = absurd (not_single (fills label (token_view text t).word) h)
  labels_step (t ∷ u ∷ ts) d h =
      ap (λ b. if b then token_view text t ∷ labels_of (tokens_view text ts) else [])
      (and_true (fills label (token_view text t).word) (fills (key (58 ∷ [])) (token_view text u).word) h)

  -- One label more.
  pub labels_on : (line found items : List Lexed) (at : ℕ) (d : Lexed) (whole : List Token) → items ≡ found ++ slice_index_or line at d ∷ []
      → starts_label text (drop at line) ≡ true → tokens_view text found ++ labels_of (tokens_view text (drop at line)) ≡ whole
      → tokens_view text items ++ labels_of (tokens_view text (drop (at + 2) line)) ≡ whole
  labels_on line found items at d whole pushed starts before =
      let rest = labels_of (tokens_view text (drop (at + 2) line)) in
      let here : slice_index_or (drop at line) 0 d ≡ slice_index_or line at d =
      get_or-drop at line 0 d ∙ ap (λ k. slice_index_or line k d) (let e : at + 0 ≡ at = omega arith in e) in
      let step : labels_of (tokens_view text (drop at line)) ≡ token_view text (slice_index_or line at d) ∷ rest =
      labels_step (drop at line) d starts ∙ (λ i. token_view text (here i) ∷ labels_of (tokens_view text (drop-drop 2 at line i))) in
      ap (λ xs. tokens_view text xs ++ rest) pushed
      ∙ ap (λ xs. xs ++ rest) (map-append (token_view text) found (slice_index_or line at d ∷ []))
      ∙ append_assoc (tokens_view text found) (token_view text (slice_index_or line at d) ∷ []) rest
      ∙ ap (λ r. tokens_view text found ++ r) (sym step)
      ∙ before

  pub proc_two : (line : List Lexed) → has_form proc_form (tokens_view text line) ≡ true → 1 < length line
  proc_two [] h = absurd (true≢false (sym h))
  proc_two (t ∷ []) h = absurd (not_single (fills (key (112 ∷ 114 ∷ 111 ∷ 99 ∷ [])) (token_view text t).word) h)
  proc_two (t ∷ u ∷ ts) h = omega arith

  abbrev rest_in : List Lexed → List LineRange → List Section
  rest_in all lines = sections_in (map (range_view text all) lines)

  -- A line that opens no procedure.
  pub sections_past : (all : List Lexed) (lines : List LineRange) (at : ℕ) (d : LineRange) (found whole : List Section) → at < length lines
      → has_form proc_form (range_view text all (slice_index_or lines at d)) ≡ false → found ++ sections_in
      (map (range_view text all) (drop at lines)) ≡ whole → found ++ sections_in (map (range_view text all) (drop (at + 1) lines)) ≡ whole
  sections_past all lines at d found whole below fails before =
      ap (λ r. found ++ r)
      (sym (ap (rest_in all) (rest_at lines at d below)
      ∙ ap (λ b. (if b then opened_by (range_view text all (slice_index_or lines at d)) (map (range_view text all) (drop (at + 1) lines)) else [])
      ++ rest_in all (drop (at + 1) lines)) fails))
      ∙ before

  opened : (line : List Lexed) (e : Lexed) (others : List (List Token)) → has_form proc_form (tokens_view text line) ≡ true → opened_by
      (tokens_view text line) others ≡ record { title = token_view text (slice_index_or line 1 e); body = take_while is_inner others } ∷ []
  opened [] e others h = absurd (true≢false (sym h))
  opened (t ∷ []) e others h = absurd (not_single (fills (key (112 ∷ 114 ∷ 111 ∷ 99 ∷ [])) (token_view text t).word) h)
  opened (t ∷ u ∷ ts) e others h = refl

  -- A line that opens one.
  pub sections_here : (all : List Lexed) (lines : List LineRange) (at : ℕ) (d : LineRange) (line : List Lexed) (e : Lexed) (found items : List Read)
      (inner : Lines) (whole : List Section) → at < length lines
      → line ≡ slice_range all (slice_index_or lines at d).first (slice_index_or lines at d).end → has_form proc_form (tokens_view text line) ≡ true
      → items ≡ found ++ record { title = slice_index_or line 1 e; lines = inner } ∷ [] → lines_view text inner ≡ take_while is_inner
      (map (range_view text all) (drop (at + 1) lines)) → sections_view text found ++ sections_in (map (range_view text all) (drop at lines)) ≡ whole
      → sections_view text items ++ sections_in (map (range_view text all) (drop (at + 1) lines)) ≡ whole
  sections_here all lines at d line e found items inner whole below here opens pushed is before =
      let others = map (range_view text all) (drop (at + 1) lines) in
      let one : Read = record { title = slice_index_or line 1 e; lines = inner } in
      let step : sections_in (map (range_view text all) (drop at lines)) ≡ section_view text one ∷ sections_in others =
      ap (rest_in all) (rest_at lines at d below)
      ∙ ap (λ ts. (if has_form proc_form (tokens_view text ts) then opened_by (tokens_view text ts) others else []) ++ sections_in others) (sym here)
      ∙ ap (λ b. (if b then opened_by (tokens_view text line) others else []) ++ sections_in others) opens
      ∙ ap (λ ss. ss ++ sections_in others) (opened line e others opens)
      ∙ ap (λ body. let s : Section = record { title = token_view text (slice_index_or line 1 e); body = body } in s ∷ sections_in others) (sym is) in
      ap (λ ss. sections_view text ss ++ sections_in others) pushed
      ∙ ap (λ ss. ss ++ sections_in others) (map-append (section_view text) found (one ∷ []))
      ∙ append_assoc (sections_view text found) (section_view text one ∷ []) (sections_in others)
      ∙ ap (λ ss. sections_view text found ++ ss) (sym step)
      ∙ before

-- A line without a statement has nothing.
pub of_line : {A : Type 0} (part : List Token → List A) → part [] ≡ [] → (ts : List Token) → flat_map part (unless_empty ts) ≡ part ts
of_line part none [] = sym none
of_line part none (t ∷ ts) = append-nil (part (t ∷ ts))

-- What is read of each statement, line by line.
module _ (text : List ℕ) (all : List Lexed) (part : List Token → List Token) (none : part [] ≡ []) where
  pub parts_on : (lines : List LineRange) (at : ℕ) (d : LineRange) (found items whole : List Token) → at < length lines
      → items ≡ found ++ part (behind_labels (range_view text all (slice_index_or lines at d)))
      → found ++ flat_map part (statements_of (map (range_view text all) (drop at lines))) ≡ whole
      → items ++ flat_map part (statements_of (map (range_view text all) (drop (at + 1) lines))) ≡ whole
  parts_on lines at d found items whole below more before =
      let statement = behind_labels (range_view text all (slice_index_or lines at d)) in
      let others = statements_of (map (range_view text all) (drop (at + 1) lines)) in
      let step : flat_map part (statements_of (map (range_view text all) (drop at lines))) ≡ part statement ++ flat_map part others =
      ap (λ ls. flat_map part (statements_of (map (range_view text all) ls))) (rest_at lines at d below)
      ∙ flat_map-append part (unless_empty statement) others ∙ ap (λ r. r ++ flat_map part others) (of_line part none statement) in
      ap (λ r. r ++ flat_map part others) more ∙ append_assoc found (part statement) (flat_map part others) ∙ ap (λ r. found ++ r) (sym step) ∙ before

-- What is read of each line.
module _ (text : List ℕ) (all : List Lexed) (part : List Token → List Token) where
  pub each_line_on : (lines : List LineRange) (at : ℕ) (d : LineRange) (found items whole : List Token) → at < length lines → items ≡ found
      ++ part (range_view text all (slice_index_or lines at d)) → found ++ flat_map part (map (range_view text all) (drop at lines)) ≡ whole
      → items ++ flat_map part (map (range_view text all) (drop (at + 1) lines)) ≡ whole
  each_line_on lines at d found items whole below more before =
      let others = flat_map part (map (range_view text all) (drop (at + 1) lines)) in
      ap (λ r. r ++ others) more
      ∙ append_assoc found (part (range_view text all (slice_index_or lines at d))) others
      ∙ ap (λ r. found ++ r) (sym (ap (λ ls. flat_map part (map (range_view text all) ls)) (rest_at lines at d below)))
      ∙ before
