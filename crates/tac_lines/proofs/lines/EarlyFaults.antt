-- The first fault of a line by its first tokens, where the rest cannot change it.
use Rattle.std.proofs.Common.{◌≡◌, ℕ, zero, ◌+◌, ◌<◌, ◌≤◌, ◌⊎◌, inl, inr, Bool, true, false, ◌||◌, List, [], ◌∷◌, ◌++◌, length, refl, sym, ap, ◌∙◌}
use Rattle.std.proofs.Common.{subst, arith, Option, Some, None, if◌then◌else◌, flat_map, is_some, append_assoc, append-nil}
use Rattle.std.proofs.Math.Bool.{or-true}
use Rattle.std.proofs.lemmas.Option.{same_Some}
use Rattle.std.specs.List.{AllByRecursion as Each}
use Rattle.tac_lines.specs.Tokens.{Token, row_from, stop_of}
use Rattle.tac_lines.specs.Forms.{Slot, label_form, has_form, labels_of, behind_labels, forms_for, some_begins, some_form, first_wrong}
use Rattle.tac_lines.specs.LineFaults.{at, word_fault, bad_fault, form_fault, row_faults, first_by_place, precedes, earlier}
use Rattle.tac_lines.specs.code.Views.{merged}
use Rattle.tac_lines.specs.declared.fault.Fault.{Fault}
use Rattle.tac_lines.specs.declared.refusal.RefusalKind.TheVariants as kind
use Rattle.tac_lines.proofs.forms.LineForms.{judge}
use Rattle.tac_lines.proofs.lines.FirstFault.{Before, Tells, tells, precedes_of, first-append}
use Rattle.tac_lines.proofs.lines.FaultPlaces.{FaultIn, words_in, bad_in, wrong_in, others_in}
use Rattle.tac_lines.proofs.tokens.Places.{ends_line, StandsIn, EachToken, row_in}
use Rattle.tac_program.proofs.lists.Elements.{each-weaker}

-- A fault behind another.
abbrev pub Later : Fault → Fault → Type 0
Later f g = f.place < g.place

not_before : (m f : Fault) → Later f m → precedes m f ≡ false
unfolding Tells
not_before m f later = go (tells m f) where
  go : Tells m f → precedes m f ≡ false
  go (inl (t, inl h)) = absurd (let never : ⊥ = omega (arith, h, later) in never)
  go (inl (t, inr h)) = absurd (let never : ⊥ = omega (arith, h.0, later) in never)
  go (inr (t, h)) = t

pick : Bool → Fault → Fault → Option Fault
pick t a b = Some (if t then a else b)

under : Fault → Fault → Fault → Bool → Option Fault
under x m g t = Some (earlier x (Some (if t then m else g)))

-- One fault more, behind the first, changes nothing.
insert_one : (a : Option Fault) (m : Fault) (b : Option Fault) (f : Fault) → Later f m → merged a b ≡ Some f → merged a (Some (earlier m b)) ≡ Some f
unfolding pick under Tells
insert_one None m None f later e = absurd (cc e)
insert_one None m (Some g) f later e =
    ap (λ t. pick t m g) (subst (λ x. precedes m x ≡ false) (sym (same_Some g f e)) (not_before m f later)) ∙ e
insert_one (Some x) m None f later e =
    ap (λ t. pick t x m) (subst (λ y. precedes y m ≡ true) (sym (same_Some x f e)) (precedes_of f m (inl later))) ∙ e
insert_one (Some x) m (Some g) f later e = go (tells m g) (tells x g) where
  go : Tells m g → Tells x g → ◌≡◌ {A = Option Fault} (Some (earlier x (Some (earlier m (Some g))))) (Some f)
  go (inr (t, h)) _ = ap (under x m g) t ∙ e
  go (inl (t, h)) (inl (u, k)) =
      let same : x ≡ f = same_Some x f (sym (ap (λ v. pick v x g) u) ∙ e) in
      ap (under x m g) t ∙ ap (λ v. pick v x m) (subst (λ y. precedes y m ≡ true) (sym same) (precedes_of f m (inl later)))
      ∙ ap (λ y. let r : Option Fault = Some y in r) same
  go (inl (t, h)) (inr (u, k)) =
      let same : g ≡ f = same_Some g f (sym (ap (λ v. pick v x g) u) ∙ e) in
      absurd (behind h (ap (λ y. y.place) same))
    where
      behind : Before m g → g.place ≡ f.place → ⊥
      behind (inl l) p = omega (arith, l, p, later)
      behind (inr l) p = omega (arith, l.0, p, later)

pub insert_later : (xs ms ys : List Fault) (f : Fault) → Each (Later f) ms → first_by_place (xs ++ ys) ≡ Some f
    → first_by_place (xs ++ (ms ++ ys)) ≡ Some f
insert_later xs [] ys f h e = e
insert_later xs (m ∷ ms) ys f h e =
    first-append xs (m ∷ (ms ++ ys))
    ∙ insert_one (first_by_place xs) m (first_by_place (ms ++ ys)) f h.0 (sym (first-append xs (ms ++ ys)) ∙ insert_later xs ms ys f h.1 e)

drop_front : (b : Fault) (o : Option Fault) (f : Fault) → Later f b → ◌≡◌ {A = Option Fault} (Some (earlier b o)) (Some f) → o ≡ Some f
unfolding Tells pick
drop_front b None f later e =
    absurd (let p : b.place ≡ f.place = ap (λ y. y.place) (same_Some b f e) in let never : ⊥ = omega (arith, p, later) in never)
drop_front b (Some g) f later e = go (tells b g) where
  go : Tells b g → ◌≡◌ {A = Option Fault} (Some g) (Some f)
  go (inl (t, h)) = absurd (let p : b.place ≡ f.place = ap (λ y. y.place) (same_Some b f (sym (ap (λ v. pick v b g) t) ∙ e)) in
      let never : ⊥ = omega (arith, p, later) in never)
  go (inr (t, h)) = sym (ap (λ v. pick v b g) t) ∙ e

-- The walk along the forms goes on behind the first tokens.
wrong_stays : (fs : List (List Slot)) (before xs ys : List Token) (t : Token) → first_wrong fs before xs ≡ Some t
    → first_wrong fs before (xs ++ ys) ≡ Some t
wrong_stays fs before [] ys t e = absurd (cc e)
wrong_stays fs before (x ∷ xs) ys t e = go (some_begins fs (before ++ x ∷ [])) e (λ k. wrong_stays fs (before ++ x ∷ []) xs ys t k) where
  go : (b : Bool) → (elim b as (λ _. Option Token) [ true ↦ first_wrong fs (before ++ x ∷ []) xs | false ↦ Some x ]) ≡ Some t
      → (first_wrong fs (before ++ x ∷ []) xs ≡ Some t → first_wrong fs (before ++ x ∷ []) (xs ++ ys) ≡ Some t)
      → (elim b as (λ _. Option Token) [ true ↦ first_wrong fs (before ++ x ∷ []) (xs ++ ys) | false ↦ Some x ]) ≡ Some t
  go true k later = later k
  go false k later = k

none_goes_on : (fs : List (List Slot)) (before xs ys : List Token) → first_wrong fs before xs ≡ None
    → first_wrong fs before (xs ++ ys) ≡ first_wrong fs (before ++ xs) ys
none_goes_on fs before [] ys e = ap (λ r. first_wrong fs r ys) (sym (append-nil before))
none_goes_on fs before (x ∷ xs) ys e = go (some_begins fs (before ++ x ∷ [])) e (λ k. none_goes_on fs (before ++ x ∷ []) xs ys k) where
  go : (b : Bool) → (elim b as (λ _. Option Token) [ true ↦ first_wrong fs (before ++ x ∷ []) xs | false ↦ Some x ]) ≡ None
      → (first_wrong fs (before ++ x ∷ []) xs ≡ None → first_wrong fs (before ++ x ∷ []) (xs ++ ys) ≡ first_wrong fs ((before ++ x ∷ []) ++ xs) ys)
      → (elim b as (λ _. Option Token) [ true ↦ first_wrong fs (before ++ x ∷ []) (xs ++ ys) | false ↦ Some x ])
      ≡ first_wrong fs (before ++ x ∷ xs) ys
  go true k later = later k ∙ ap (λ r. first_wrong fs r ys) (append_assoc before (x ∷ []) xs)
  go false k later = absurd (cc k)

none_cut : (fs : List (List Slot)) (xs : List Token) (stop : ℕ) → first_wrong fs [] xs ≡ None → judge fs xs true stop ≡ []
none_cut fs xs stop e =
    ap (λ o. elim o as (λ _. List Fault) [ Some t ↦ at kind.Syntax t.start | None ↦ (if some_form fs xs || true then [] else at kind.Syntax stop) ]) e
    ∙ ap (λ b. if b then [] else at kind.Syntax stop) (or-true (some_form fs xs))

told : Bool → Bool → ℕ → Option Token → List Fault
told whole cut stop o = elim o as (λ _. List Fault) [ Some t ↦ at kind.Syntax t.start | None ↦ (if whole || cut then [] else at kind.Syntax stop) ]

module _ (low high : ℕ) (ended : Bool) (f : Fault) (before : f.place < low) where
  pub all_later : (fs : List Fault) → Each (FaultIn low high ended) fs → Each (Later f) fs
  all_later fs h = each-weaker (FaultIn low high ended) (Later f) (λ g k. omega (arith, k.from, before)) fs h

  judge_later : (fs : List (List Slot)) (xs ys : List Token) (cut : Bool) (stop : ℕ) → first_wrong fs [] xs ≡ None
      → EachToken (StandsIn low high ended) ys → low ≤ stop → Each (Later f) (judge fs (xs ++ ys) cut stop)
  judge_later fs xs ys cut stop e h k =
      go (first_wrong fs [] (xs ++ ys)) (λ u w. wrong_in low high ended fs xs ys u h (sym (none_goes_on fs [] xs ys e) ∙ w)) refl where
        yes_no : (b : Bool) → Each (Later f) (if b then [] else at kind.Syntax stop)
        yes_no true = tt
        yes_no false = (omega (arith, before, k), tt)

        go : (o : Option Token) → ((u : Token) → first_wrong fs [] (xs ++ ys) ≡ Some u → StandsIn low high ended u) → first_wrong fs [] (xs ++ ys) ≡ o
            → Each (Later f) (elim o as (λ _.
            List Fault) [ Some t ↦ at kind.Syntax t.start | None ↦ (if some_form fs (xs ++ ys) || cut then [] else at kind.Syntax stop) ])
        go None w w' = yes_no (some_form fs (xs ++ ys) || cut)
        go (Some u) w w' = (omega (arith, before, (w u w').from), tt)

  judge_stays : (ws : List Fault) (fs : List (List Slot)) (xs ys : List Token) (cut : Bool) (stop0 stop : ℕ) → EachToken (StandsIn low high ended) ys
      → low ≤ stop → first_by_place (ws ++ judge fs xs true stop0) ≡ Some f → first_by_place (ws ++ judge fs (xs ++ ys) cut stop) ≡ Some f
  unfolding told
  judge_stays ws fs xs ys cut stop0 stop h k e = go (first_wrong fs [] xs) refl where
    go : (o : Option Token) → first_wrong fs [] xs ≡ o → first_by_place (ws ++ judge fs (xs ++ ys) cut stop) ≡ Some f
    go (Some t) w =
        ap (λ o. first_by_place (ws ++ told (some_form fs (xs ++ ys)) cut stop o)) (wrong_stays fs [] xs ys t w)
        ∙ sym (ap (λ o. first_by_place (ws ++ told (some_form fs xs) true stop0 o)) w) ∙ e
    go None w =
        let alone : first_by_place (ws ++ []) ≡ Some f = sym (ap (λ js. first_by_place (ws ++ js)) (none_cut fs xs stop0 w)) ∙ e in
        ap (λ js. first_by_place (ws ++ js)) (sym (append-nil (judge fs (xs ++ ys) cut stop)))
        ∙ insert_later ws (judge fs (xs ++ ys) cut stop) [] f (judge_later fs xs ys cut stop w h k) alone

  stop_each : (y : Token) (ys : List Token) → EachToken (StandsIn low high ended) (y ∷ ys) → low ≤ stop_of (y ∷ ys)
  stop_each y [] h = omega (arith, (h.0).from, (h.0).some)
  stop_each y (z ∷ zs) h = stop_each z zs h.1

  stop_after : (ts ys : List Token) → low ≤ stop_of ts → EachToken (StandsIn low high ended) ys → low ≤ stop_of (ts ++ ys)
  stop_after [] [] k h = k
  stop_after [] (y ∷ ys) k h = stop_each y ys h
  stop_after (t ∷ []) [] k h = k
  stop_after (t ∷ []) (y ∷ ys) k h = stop_each y ys h
  stop_after (t ∷ u ∷ ts) ys k h = stop_after (u ∷ ts) ys k h

-- Tokens that come behind may begin with labels only where all before are labels.
Stays : List Token → List Token → Type 0
Stays ts ys =
    ((behind_labels ts ≡ []) × (behind_labels (ts ++ ys) ≡ behind_labels ys))
    ⊎ ((behind_labels (ts ++ ys) ≡ behind_labels ts ++ ys) × (forms_for true (labels_of (ts ++ ys)) ≡ forms_for true (labels_of ts)))

stays : (ts ys : List Token) → (length (behind_labels ts) ≡ 1 → ⊥) → Stays ts ys
unfolding Stays
stays [] ys h = inl (refl, refl)
stays (t ∷ []) ys h = absurd (h refl)
stays (t ∷ u ∷ ts) ys h = go (has_form label_form (t ∷ u ∷ [])) h (λ k. stays ts ys k) where
  go : (b : Bool) → (length (if b then behind_labels ts else t ∷ u ∷ ts) ≡ 1 → ⊥) → ((length (behind_labels ts) ≡ 1 → ⊥) → Stays ts ys)
      → (((if b then behind_labels ts else t ∷ u ∷ ts) ≡ []) × ((if b then behind_labels (ts ++ ys) else t ∷ u ∷ (ts ++ ys)) ≡ behind_labels ys))
      ⊎ (((if b then behind_labels (ts ++ ys) else t ∷ u ∷ (ts ++ ys)) ≡ (if b then behind_labels ts else t ∷ u ∷ ts) ++ ys)
      × (forms_for true (if b then t ∷ labels_of (ts ++ ys) else []) ≡ forms_for true (if b then t ∷ labels_of ts else [])))
  go true k later = sides (later k) where
    sides : Stays ts ys → ((behind_labels ts ≡ []) × (behind_labels (ts ++ ys) ≡ behind_labels ys))
        ⊎ ((behind_labels (ts ++ ys) ≡ behind_labels ts ++ ys) × (forms_for true (t ∷ labels_of (ts ++ ys)) ≡ forms_for true (t ∷ labels_of ts)))
    sides (inl p) = inl p
    sides (inr p) = inr (p.0, refl)
  go false k later = inr (refl, refl)

words_append : (xs ys : List Token) → flat_map word_fault (xs ++ ys) ≡ flat_map word_fault xs ++ flat_map word_fault ys
words_append [] ys = refl
words_append (x ∷ xs) ys =
    ap (λ r. word_fault x ++ r) (words_append xs ys) ∙ sym (append_assoc (word_fault x) (flat_map word_fault xs) (flat_map word_fault ys))

form_stays : (low high : ℕ) (ended inside : Bool) (f : Fault) (ws : List Fault) (ts ys : List Token) (bad : Option ℕ) → f.place < low
    → low ≤ stop_of ts → (length (behind_labels ts) ≡ 1 → ⊥) → EachToken (StandsIn low high ended) ys
    → first_by_place (ws ++ form_fault inside (record { tokens = ts; bad = Some low })) ≡ Some f
    → first_by_place (ws ++ form_fault inside (record { tokens = ts ++ ys; bad = bad })) ≡ Some f
unfolding Stays
form_stays low high ended false f ws ts ys bad before reach apart h e =
    judge_stays low high ended f before ws (forms_for false []) ts ys (is_some bad) (stop_of ts) (stop_of (ts ++ ys)) h
    (stop_after low high ended f before ts ys reach h) e
form_stays low high ended true f ws ts ys bad before reach apart h e = go (stays ts ys apart) where
  stop : low ≤ stop_of (ts ++ ys)
  stop = stop_after low high ended f before ts ys reach h

  go : Stays ts ys
      → first_by_place (ws ++ judge (forms_for true (labels_of (ts ++ ys))) (behind_labels (ts ++ ys)) (is_some bad) (stop_of (ts ++ ys))) ≡ Some f
  go (inl p) =
      let fs = forms_for true (labels_of ts) in
      let gs = forms_for true (labels_of (ts ++ ys)) in
      let same : judge fs (behind_labels ts) true (stop_of ts) ≡ judge gs [] true (stop_of ts) =
      ap (λ xs. judge fs xs true (stop_of ts)) p.0 ∙ none_cut fs [] (stop_of ts) refl ∙ sym (none_cut gs [] (stop_of ts) refl) in
      ap (λ xs. first_by_place (ws ++ judge gs xs (is_some bad) (stop_of (ts ++ ys)))) p.1
      ∙ judge_stays low high ended f before ws gs [] (behind_labels ys) (is_some bad) (stop_of ts) (stop_of (ts ++ ys))
      (others_in low high ended ys h) stop (sym (ap (λ js. first_by_place (ws ++ js)) same) ∙ e)
  go (inr p) =
      (λ i. first_by_place (ws ++ judge (p.1 i) (p.0 i) (is_some bad) (stop_of (ts ++ ys))))
      ∙ judge_stays low high ended f before ws (forms_for true (labels_of ts)) (behind_labels ts) ys (is_some bad) (stop_of ts) (stop_of (ts ++ ys))
      h stop e

-- The first fault of the tokens up to a place is the line's, where it stands before that place.
pub early : (inside : Bool) (ts : List Token) (place : ℕ) (f : Fault) (rest : List ℕ) → place ≤ stop_of ts → (length (behind_labels ts) ≡ 1 → ⊥)
    → first_by_place (row_faults inside (record { tokens = ts; bad = Some place })) ≡ Some f → f.place < place
    → first_by_place (row_faults inside (record { tokens = ts ++ (row_from place zero rest).tokens; bad = (row_from place zero rest).bad })) ≡ Some f
early inside ts place f rest reach apart e before =
    let high = place + length rest in
    let ended = ends_line rest in
    let row = row_from place zero rest in
    let within = row_in place zero high rest refl in
    let words = flat_map word_fault ts in
    let more = flat_map word_fault row.tokens in
    let form = form_fault inside (record { tokens = ts ++ row.tokens; bad = row.bad }) in
    let short = drop_front (record { kind = kind.BadByte; place = place }) _ f before e in
    let formed = form_stays place high ended inside f words ts row.tokens row.bad before reach apart within.tokens short in
    let worded =
    insert_later words more form f (all_later place high ended f before more (words_in place high ended row.tokens within.tokens)) formed in
    ap first_by_place (append_assoc (bad_fault row.bad) (flat_map word_fault (ts ++ row.tokens)) form)
    ∙ insert_later [] (bad_fault row.bad) (flat_map word_fault (ts ++ row.tokens) ++ form) f
    (all_later place high ended f before (bad_fault row.bad) (bad_in place high ended row.bad within.bad))
    (ap (λ xs. first_by_place (xs ++ form)) (words_append ts row.tokens) ∙ ap first_by_place (append_assoc words more form) ∙ worded)
