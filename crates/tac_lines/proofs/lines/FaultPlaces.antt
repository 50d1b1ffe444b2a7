-- Where the faults of a line stand, and those of the lines behind it.
use Rattle.std.proofs.Common.{◌≡◌, ℕ, zero, ◌+◌, ◌-◌, ◌<◌, ◌≤◌, ◌⊎◌, inl, inr, Bool, true, false, ◌||◌, List, [], ◌∷◌, ◌++◌, length, drop, refl, sym}
use Rattle.std.proofs.Common.{ap, ◌∙◌, subst, arith, Option, Some, None, if◌then◌else◌, true≢false, flat_map, nat_lt, is_some, length-append}
use Rattle.std.proofs.Common.{length-drop, slice_range, eq-or-lt_of_le}
use Rattle.std.specs.List.{onto_first, AllByRecursion as Each}
use Rattle.std.proofs.lemmas.Option.{same_Some}
use Rattle.tac_lines.specs.Text.{lines, is_line_end}
use Rattle.tac_lines.specs.Tokens.{Word, name, number, fixed, Token, Row, row_from, rows_from, stop_of}
use Rattle.tac_lines.specs.Forms.{Slot, label_form, has_form, labels_of, behind_labels, forms_for, some_begins, some_form, first_wrong}
use Rattle.tac_lines.specs.LineFaults.{number_of_kind, at, word_fault, bad_fault, form_fault, row_faults, line_faults, inside_after, first_by_place}
use Rattle.tac_program.specs.Limits.{longest_name, largest_number}
use Rattle.tac_program.proofs.lists.Elements.{each-append, each-weaker}
use Rattle.tac_lines.specs.code.Lexed.{IfFault}
use Rattle.tac_lines.specs.declared.fault.Fault.{Fault}
use Rattle.tac_lines.specs.declared.fault.Stop.{Stop}
use Rattle.tac_lines.specs.declared.fault.Stop.TheVariants as stop
use Rattle.tac_lines.specs.declared.refusal.RefusalKind.{RefusalKind}
use Rattle.tac_lines.specs.declared.refusal.RefusalKind.TheVariants as kind
use Rattle.tac_lines.proofs.lines.FirstFault.{Before, first_each, first_front}
use Rattle.tac_lines.proofs.tokens.Places.{ends_line, StandsIn, EachToken, BadIn, RowIn, row_in}
use Rattle.tac_lines.proofs.lines.Lines.{lines_join}
use Rattle.tac_lines.proofs.tokens.RowSteps.{length-range}

-- A fault of a line, between two places, and before the second where the line ends there.
pub record FaultIn (low high : ℕ) (ended : Bool) (f : Fault) : Type 0 where
  pub from : low ≤ f.place
  pub to : f.place ≤ high
  pub before : ended ≡ true → f.place < high
  pub small : number_of_kind f.kind ≤ 4

module _ (low high : ℕ) (ended : Bool) where
  start_in : (k : RefusalKind) → number_of_kind k ≤ 4 → (t : Token) → StandsIn low high ended t → Each (FaultIn low high ended) (at k t.start)
  start_in k n t h = (record { from = h.from; to = omega (arith, h.some, h.to); before = λ e. omega (arith, h.some, h.to); small = n }, tt)

  word_in : (t : Token) → StandsIn low high ended t → Each (FaultIn low high ended) (word_fault t)
  word_in t h = go t.word where
    yes_no : (b : Bool) (k : RefusalKind) → number_of_kind k ≤ 4 → Each (FaultIn low high ended) (if b then at k t.start else [])
    yes_no true k n = start_in k n t h
    yes_no false k n = tt

    go : (w : Word) → Each (FaultIn low high ended) (elim w as (λ _. List Fault) [
      | name s ↦ (if nat_lt longest_name (length s) then at kind.NameTooLong t.start else [])
      | number n ↦ (if nat_lt largest_number n then at kind.NumberTooLarge t.start else [])
      | fixed s ↦ []
    ])
    go (name s) = yes_no (nat_lt longest_name (length s)) kind.NameTooLong (omega arith)
    go (number n) = yes_no (nat_lt largest_number n) kind.NumberTooLarge (omega arith)
    go (fixed s) = tt

  pub words_in : (ts : List Token) → EachToken (StandsIn low high ended) ts → Each (FaultIn low high ended) (flat_map word_fault ts)
  words_in [] h = tt
  words_in (t ∷ ts) h = each-append (FaultIn low high ended) (word_fault t) (flat_map word_fault ts) (word_in t h.0) (words_in ts h.1)

  pub bad_in : (bad : Option ℕ) → BadIn low high bad → Each (FaultIn low high ended) (bad_fault bad)
  bad_in None h = tt
  bad_in (Some b) h = (record { from = h.0; to = omega (arith, h.1); before = λ e. h.1; small = omega arith }, tt)

  pub wrong_in : (forms : List (List Slot)) (before ts : List Token) (t : Token) → EachToken (StandsIn low high ended) ts
      → first_wrong forms before ts ≡ Some t → StandsIn low high ended t
  wrong_in forms before [] t h e = absurd (cc e)
  wrong_in forms before (u ∷ us) t h e = go (some_begins forms (before ++ u ∷ [])) e (λ k. wrong_in forms (before ++ u ∷ []) us t h.1 k) where
    go : (b : Bool) → (elim b as (λ _. Option Token) [ true ↦ first_wrong forms (before ++ u ∷ []) us | false ↦ Some u ]) ≡ Some t
        → (first_wrong forms (before ++ u ∷ []) us ≡ Some t → StandsIn low high ended t) → StandsIn low high ended t
    go true k later = later k
    go false k later = subst (StandsIn low high ended) (same_Some u t k) h.0

  pub others_in : (ts : List Token) → EachToken (StandsIn low high ended) ts → EachToken (StandsIn low high ended) (behind_labels ts)
  others_in [] h = tt
  others_in (t ∷ []) h = h
  others_in (t ∷ u ∷ ts) h = go (has_form label_form (t ∷ u ∷ [])) (others_in ts h.1.1) where
    go : (b : Bool) → EachToken (StandsIn low high ended) (behind_labels ts)
        → EachToken (StandsIn low high ended) (if b then behind_labels ts else t ∷ u ∷ ts)
    go true k = k
    go false k = h

  stop_in : (t : Token) (ts : List Token) → EachToken (StandsIn low high ended) (t ∷ ts)
      → Each (FaultIn low high ended) (at kind.Syntax (stop_of (t ∷ ts)))
  stop_in t [] h = (record { from = omega (arith, (h.0).from, (h.0).some); to = (h.0).to; before = (h.0).before; small = omega arith }, tt)
  stop_in t (u ∷ us) h = stop_in u us h.1

  judged_in : (forms : List (List Slot)) (ts others : List Token) (cut : Bool) → EachToken (StandsIn low high ended) others
      → Each (FaultIn low high ended) (at kind.Syntax (stop_of ts)) → Each (FaultIn low high ended) (elim (first_wrong forms [] others) as (λ _.
      List Fault) [ Some t ↦ at kind.Syntax t.start | None ↦ (if some_form forms others || cut then [] else at kind.Syntax (stop_of ts)) ])
  judged_in forms ts others cut h k = go (first_wrong forms [] others) (λ t e. wrong_in forms [] others t h e) refl where
    yes_no : (b : Bool) → Each (FaultIn low high ended) (if b then [] else at kind.Syntax (stop_of ts))
    yes_no true = tt
    yes_no false = k

    go : (o : Option Token) → ((t : Token) → first_wrong forms [] others ≡ Some t → StandsIn low high ended t) → first_wrong forms [] others ≡ o
        → Each (FaultIn low high ended) (elim o as (λ _.
        List Fault) [ Some t ↦ at kind.Syntax t.start | None ↦ (if some_form forms others || cut then [] else at kind.Syntax (stop_of ts)) ])
    go None f e = yes_no (some_form forms others || cut)
    go (Some t) f e = start_in kind.Syntax (omega arith) t (f t e)

  form_in : (inside : Bool) (row : Row) → EachToken (StandsIn low high ended) row.tokens → Each (FaultIn low high ended) (form_fault inside row)
  form_in inside row h = go inside row.tokens h where
    go : (i : Bool) (ts : List Token) → EachToken (StandsIn low high ended) ts
        → Each (FaultIn low high ended) (form_fault i (record { tokens = ts; bad = row.bad }))
    go false [] k = tt
    go true [] k = tt
    go false (t ∷ ts) k = judged_in (forms_for false []) (t ∷ ts) (t ∷ ts) (is_some row.bad) k (stop_in t ts k)
    go true (t ∷ ts) k =
        judged_in (forms_for true (labels_of (t ∷ ts))) (t ∷ ts) (behind_labels (t ∷ ts)) (is_some row.bad) (others_in (t ∷ ts) k) (stop_in t ts k)

  pub faults_in : (inside : Bool) (row : Row) → RowIn low high ended row → Each (FaultIn low high ended) (row_faults inside row)
  faults_in inside row h =
      each-append (FaultIn low high ended) (bad_fault row.bad ++ flat_map word_fault row.tokens) (form_fault inside row)
      (each-append (FaultIn low high ended) (bad_fault row.bad) (flat_map word_fault row.tokens) (bad_in row.bad h.bad)
      (words_in row.tokens h.tokens))
      (form_in inside row h.tokens)

-- Faults from a place on.
rest_from : (inside : Bool) (place end : ℕ) (ls : List (List ℕ)) → place + length (flat_map (λ l. l) ls) ≤ end
    → Each (λ f. place ≤ f.place) (line_faults inside end (rows_from place ls))
rest_from true place end [] h = (omega (arith, h), tt)
rest_from false place end [] h = tt
rest_from inside place end (l ∷ ls) h =
    let size : length (l ++ flat_map (λ x. x) ls) ≡ length l + length (flat_map (λ x. x) ls) = length-append l (flat_map (λ x. x) ls) in
    let row : Row = row_from place zero l in
    each-append (λ f. place ≤ f.place) (row_faults inside row) (line_faults (inside_after inside row) end (rows_from (place + length l) ls))
    (each-weaker (FaultIn place (place + length l) (ends_line l)) (λ f. place ≤ f.place) (λ f k. k.from) (row_faults inside row)
    (faults_in place (place + length l) (ends_line l) inside row (row_in place zero (place + length l) l refl)))
    (each-weaker (λ f. place + length l ≤ f.place) (λ f. place ≤ f.place) (λ f k. omega (arith, k))
    (line_faults (inside_after inside row) end (rows_from (place + length l) ls))
    (rest_from (inside_after inside row) (place + length l) end ls (omega (arith, h, size))))

-- Each line but the last ends with its line feed.
earlier_ends : (bs l : List ℕ) (m : List ℕ) (ls : List (List ℕ)) → lines bs ≡ l ∷ m ∷ ls → ends_line l ≡ true
earlier_ends [] l m ls e = absurd (cc e)
earlier_ends (b ∷ bs) l m ls e = by_test (is_line_end b) refl e (λ k n ns f. earlier_ends bs k n ns f) where
  head : (x y : List ℕ) (xs ys : List (List ℕ)) → ◌≡◌ {A = List (List ℕ)} (x ∷ xs) (y ∷ ys) → x ≡ y
  head x y xs ys f = cc

  tail : (x y : List ℕ) (xs ys : List (List ℕ)) → ◌≡◌ {A = List (List ℕ)} (x ∷ xs) (y ∷ ys) → xs ≡ ys
  tail x y xs ys f = cc

  longer : (k : List ℕ) → ends_line k ≡ true → ends_line (b ∷ k) ≡ true
  longer [] f = absurd (true≢false (sym f))
  longer (c ∷ cs) f = f

  onto : (ks : List (List ℕ)) → onto_first b ks ≡ l ∷ m ∷ ls → ((k n : List ℕ) (ns : List (List ℕ)) → ks ≡ k ∷ n ∷ ns → ends_line k ≡ true)
      → ends_line l ≡ true
  onto [] f later = absurd (cc (tail (b ∷ []) l [] (m ∷ ls) f))
  onto (k ∷ ks) f later =
      subst (λ x. ends_line x ≡ true) (head (b ∷ k) l ks (m ∷ ls) f) (longer k (later k m ls (ap (λ r. k ∷ r) (tail (b ∷ k) l ks (m ∷ ls) f))))

  by_test : (t : Bool) → is_line_end b ≡ t → (if is_line_end b then (b ∷ []) ∷ lines bs else onto_first b (lines bs)) ≡ l ∷ m ∷ ls
      → ((k n : List ℕ) (ns : List (List ℕ)) → lines bs ≡ k ∷ n ∷ ns → ends_line k ≡ true) → ends_line l ≡ true
  by_test true f g later = subst (λ x. ends_line x ≡ true)
      (head (b ∷ []) l (lines bs) (m ∷ ls) (sym (ap (λ t. if t then (b ∷ []) ∷ lines bs else onto_first b (lines bs)) f) ∙ g)) f
  by_test false f g later = onto (lines bs) (sym (ap (λ t. if t then (b ∷ []) ∷ lines bs else onto_first b (lines bs)) f) ∙ g) later

-- The first fault of a line stands before all of the lines behind it.
pub rest_behind : (text : List ℕ) (start stop : ℕ) (inside inside2 : Bool) (f : Fault) → lines (drop start text) ≡ slice_range text start stop ∷ lines
    (drop stop text) → start < stop → stop ≤ length text → first_by_place (row_faults inside (row_from start zero (slice_range text start stop)))
    ≡ Some f → Each (Before f) (line_faults inside2 (length text) (rows_from stop (lines (drop stop text))))
rest_behind text start stop inside inside2 f cut after within e =
    go (lines (drop stop text)) refl
    (first_each (FaultIn start stop (ends_line l)) (row_faults inside (row_from start zero l)) f (faults_in start stop (ends_line l) inside
    (row_from start zero l) (row_in start zero stop l (omega (arith, length-range text start stop within, after)))) e)
  where
    l : List ℕ
    l = slice_range text start stop

    go : (ls : List (List ℕ)) → lines (drop stop text) ≡ ls → FaultIn start stop (ends_line l) f
        → Each (Before f) (line_faults inside2 (length text) (rows_from stop ls))
    go [] k h = last inside2 where
      last : (i : Bool) → Each (Before f) (line_faults i (length text) [])
      last true = (by_place (eq-or-lt_of_le (let k : f.place ≤ length text = omega (arith, h.to, within) in k)), tt) where
        by_place : (f.place ≡ length text) ⊎ (f.place < length text) → Before f (record { kind = kind.Unclosed; place = length text })
        by_place (inl a) = inr (a, omega (arith, h.small))
        by_place (inr a) = inl a
      last false = tt
    go (m ∷ ms) k h =
        let ended : ends_line l ≡ true = earlier_ends (drop start text) l m ms (cut ∙ ap (λ r. l ∷ r) k) in
        let size : length (flat_map (λ x. x) (m ∷ ms)) ≡ length text - stop =
        ap (λ r. length (flat_map (λ x. x) r)) (sym k) ∙ ap length (lines_join (drop stop text)) ∙ length-drop stop text in
        each-weaker (λ g. stop ≤ g.place) (Before f) (λ g n. inl (omega (arith, n, h.before ended)))
        (line_faults inside2 (length text) (rows_from stop (m ∷ ms)))
        (rest_from inside2 stop (length text) (m ∷ ms) (omega (arith, size, within)))

-- One line, and the lines behind it.
pub rows_step : (text : List ℕ) (start stop : ℕ) (row : Row) → lines (drop start text) ≡ slice_range text start stop ∷ lines (drop stop text)
    → start < stop → stop ≤ length text → row_from start zero (slice_range text start stop) ≡ row
    → rows_from start (lines (drop start text)) ≡ row ∷ rows_from stop (lines (drop stop text))
rows_step text start stop row cut after within e =
    ap (rows_from start) cut
    ∙ (λ i.
    e i ∷ rows_from (let k : start + length (slice_range text start stop) ≡ stop = omega (arith, length-range text start stop within, after) in
    k i) (lines (drop stop text)))

pub no_fault_step : (inside after : Bool) (end : ℕ) (row : Row) (rest : List Row) → row_faults inside row ≡ [] → inside_after inside row ≡ after
    → line_faults inside end (row ∷ rest) ≡ line_faults after end rest
no_fault_step inside after end row rest e f = λ i. e i ++ line_faults (f i) end rest

-- The first fault of the first line that has one is that of the text.
pub first_of_text : (text : List ℕ) (start stop : ℕ) (inside : Bool) (row : Row) (f : Fault) (all : List Fault)
    → lines (drop start text) ≡ slice_range text start stop ∷ lines (drop stop text) → start < stop → stop ≤ length text
    → row_from start zero (slice_range text start stop) ≡ row → first_by_place (row_faults inside row) ≡ Some f
    → all ≡ line_faults inside (length text) (rows_from start (lines (drop start text))) → first_by_place all ≡ Some f
first_of_text text start stop inside row f all cut after within e found whole =
    ap first_by_place (whole ∙ ap (line_faults inside (length text)) (rows_step text start stop row cut after within e))
    ∙ first_front (row_faults inside row) (line_faults (inside_after inside row) (length text) (rows_from stop (lines (drop stop text)))) f found
    (rest_behind text start stop inside (inside_after inside row) f cut after within (ap (λ r. first_by_place (row_faults inside r)) e ∙ found))

-- The same, where a line's first fault is told or memory runs out.
pub stop_of_text : (text : List ℕ) (start end : ℕ) (inside : Bool) (s : Stop) (all : List Fault)
    → lines (drop start text) ≡ slice_range text start end ∷ lines (drop end text) → start < end → end ≤ length text
    → IfFault (λ f. first_by_place (row_faults inside (row_from start zero (slice_range text start end))) ≡ Some f) s
    → all ≡ line_faults inside (length text) (rows_from start (lines (drop start text))) → IfFault (λ f. first_by_place all ≡ Some f) s
stop_of_text text start end inside (stop.Fault f) all cut after within found whole =
    first_of_text text start end inside (row_from start zero (slice_range text start end)) f all cut after within refl found whole
stop_of_text text start end inside stop.OutOfMemory all cut after within found whole = tt
