-- The lines of a listing have no faults, and its sections have the cores of the text's.
use Rattle.std.proofs.Common.{◌≡◌, ℕ, ◌+◌, ◌⊎◌, inl, inr, Bool, true, false, cond, not, ◌||◌, List, [], ◌∷◌, ◌++◌, length, map, flat_map, take}
use Rattle.std.proofs.Common.{take_while, find, refl, sym, ap, ◌∙◌, subst, arith, Option, Some, codes, true≢false, if◌then◌else◌, one-add}
use Rattle.std.specs.List.{AllByRecursion as Each, list_all, prefix_len}
use Rattle.std.proofs.lemmas.List.{map-append}
use Rattle.std.proofs.lemmas.Bool.{or_right}
use Rattle.tac_lines.specs.Tokens.{Word, name, number, fixed, Token, unless_empty}
use Rattle.tac_lines.specs.Forms.{Slot, has_form, proc_form, end_form, label_form, statements, statement_forms, statement_row, labels_of}
use Rattle.tac_lines.specs.Forms.{behind_labels, forms_for, some_form, is_name_word, is_inner}
use Rattle.tac_reader.specs.Sections.{Section, sections_in, statements_of, opened_by}
use Rattle.tac_reader.specs.Parses.{names_for, label_places}
use Rattle.tac_program.specs.Names.{Names}
use Rattle.tac_lines.specs.declared.form.Form.{Form}
use Rattle.tac_lines.proofs.forms.Apart.{apart, not_both}
use Rattle.tac_reader.proofs.tokens.Bare.{bare, erased, all_erased, words_of, erased_words, has_form-erased, statement_row-erased, labels_of-erased}
use Rattle.tac_reader.proofs.tokens.Bare.{behind-erased}
use Rattle.tac_program.proofs.lists.Elements.{each-append}
use Rattle.tac_reader.proofs.sections.Cores.{core, erased_twice, each_twice}
use Rattle.tac_reader.proofs.lines.FaultlessLines.{IsSoundWord, Sound, IsFaultless, after}
use Rattle.tac_reader.proofs.programs.FaultlessStatements.{no_labels}
use Rattle.tac_reader.proofs.lines.FineRows.{LinesFine}
use Rattle.tac_reader.proofs.programs.ResolvedWords.{row_has_form, row_passes}
use Rattle.tac_reader.proofs.sections.GoodSections.{LabelGood, StatementGood, LineGood, SectionGood}
use Rattle.tac_reader.proofs.layouts.ListingLines.{label_line, normal, section_lines}

abbrev pub bare_lines : List (List Word) → List (List Token)
bare_lines wss = map (map bare) wss

-- A line that neither opens nor closes a procedure.
record Inner (ws : List Word) : Type 0 where
  fine : IsFaultless true (map bare ws)
  no_proc : has_form proc_form (map bare ws) ≡ false
  no_end : has_form end_form (map bare ws) ≡ false

-- The line of a label.
labelled : (w : Word) → is_name_word w ≡ true
    → (labels_of (bare w ∷ bare (fixed (codes ":")) ∷ []) ≡ bare w ∷ []) × (behind_labels (bare w ∷ bare (fixed (codes ":")) ∷ []) ≡ [])
labelled (name s) h = (refl, refl)
labelled (number n) h = absurd (true≢false (sym h))
labelled (fixed s) h = absurd (true≢false (sym h))

label_inner : (w : Word) → is_name_word w ≡ true → IsSoundWord w → Inner (w ∷ fixed (codes ":") ∷ [])
label_inner (name s) h f = record { fine = record { words = (f, (inr refl, tt)); form = refl }; no_proc = refl; no_end = refl }
label_inner (number n) h f = absurd (true≢false (sym h))
label_inner (fixed s) h f = absurd (true≢false (sym h))

-- The line of a statement.
behind_unlabelled : (line : List Token) → labels_of (behind_labels line) ≡ []
behind_unlabelled [] = refl
behind_unlabelled (t ∷ []) = refl
behind_unlabelled (t ∷ u ∷ ts) = go (has_form label_form (t ∷ u ∷ [])) refl (behind_unlabelled ts) where
  go : (b : Bool) → has_form label_form (t ∷ u ∷ []) ≡ b → labels_of (behind_labels ts) ≡ []
      → labels_of (if b then behind_labels ts else t ∷ u ∷ ts) ≡ []
  go true e k = k
  go false e k = ap (λ b. if b then t ∷ labels_of ts else []) e

bare_unlabelled : (ts : List Token) → labels_of ts ≡ []
    → (labels_of (map bare (words_of ts)) ≡ []) × (behind_labels (map bare (words_of ts)) ≡ all_erased ts)
bare_unlabelled ts h = (
  ap labels_of (sym (erased_words ts)) ∙ labels_of-erased ts ∙ ap all_erased h,
  ap behind_labels (sym (erased_words ts)) ∙ behind-erased ts ∙ ap all_erased (no_labels ts h),
)

no_form : (ts : List Token) (row : Form × List Slot) (form : List Slot) → statement_row ts ≡ Some row
    → list_all (λ r. apart r.1 form) statements ≡ true → has_form form ts ≡ false
no_form ts row form e all = go (has_form form ts) refl where
  go : (b : Bool) → has_form form ts ≡ b → has_form form ts ≡ false
  go true h = absurd (not_both row.1 form ts (row_passes (λ r. apart r.1 form) ts row all e) (row_has_form ts row e) h)
  go false h = h

found_any : (ts : List Token) (rows : List (Form × List Slot)) (row : Form × List Slot) → find (λ r. has_form r.1 ts) rows ≡ Some row
    → some_form (map (λ r. r.1) rows) ts ≡ true
found_any ts [] row e = absurd (cc e)
found_any ts (r ∷ rs) row e = go (has_form r.1 ts) refl (found_any ts rs row) where
  go : (b : Bool) → has_form r.1 ts ≡ b → (find (λ q. has_form q.1 ts) rs ≡ Some row → some_form (map (λ q. q.1) rs) ts ≡ true)
      → (has_form r.1 ts || some_form (map (λ q. q.1) rs) ts) ≡ true
  go true h later = ap (λ b. b || some_form (map (λ q. q.1) rs) ts) h
  go false h later =
      ap (λ b. b || some_form (map (λ q. q.1) rs) ts) h
      ∙ later (sym (ap (λ b. cond b (let o : Option (Form × List Slot) = Some r in o) (find (λ q. has_form q.1 ts) rs)) h) ∙ e)

statement_inner : (names : Names) (ts : List Token) → labels_of ts ≡ [] → StatementGood names ts → Inner (words_of ts)
statement_inner names ts none good =
    let bares = bare_unlabelled ts none in
    let same : all_erased ts ≡ map bare (words_of ts) = erased_words ts in
    record {
      fine = record {
        words = subst (Each Sound) same (each_word ts good.words);
        form = (λ i. some_form (forms_for true (bares.0 i)) (bares.1 i))
            ∙ or_right (has_form [] (all_erased ts)) (has_form end_form (all_erased ts) || some_form statement_forms (all_erased ts))
            (or_right (has_form end_form (all_erased ts)) (some_form statement_forms (all_erased ts))
            (found_any (all_erased ts) statements good.row (statement_row-erased ts ∙ good.is_row)));
      };
      no_proc = sym (ap (has_form proc_form) same) ∙ has_form-erased proc_form ts ∙ no_form ts good.row proc_form good.is_row refl;
      no_end = sym (ap (has_form end_form) same) ∙ has_form-erased end_form ts ∙ no_form ts good.row end_form good.is_row refl;
    }
  where
    each_word : (us : List Token) → Each Sound us → Each Sound (all_erased us)
    each_word [] h = tt
    each_word (u ∷ us) h = (h.0, each_word us h.1)

-- The lines of a section.
module _ (names : Names) where
  labels_inner : (ts : List Token) → Each LabelGood ts → Each Inner (map label_line ts)
  labels_inner [] h = tt
  labels_inner (t ∷ ts) h = (label_inner t.word (h.0).named (h.0).sound, labels_inner ts h.1)

  behind_inner : (ts : List Token) → labels_of ts ≡ [] → (ts ≡ []) ⊎ StatementGood names ts → Each Inner (map words_of (unless_empty ts))
  behind_inner [] none good = tt
  behind_inner (t ∷ ts) none (inl e) = absurd (cc e)
  behind_inner (t ∷ ts) none (inr good) = (statement_inner names (t ∷ ts) none good, tt)

  normal_inner : (body : List (List Token)) → Each (LineGood names) body → Each Inner (normal body)
  normal_inner [] h = tt
  normal_inner (line ∷ others) h =
      each-append Inner (map label_line (labels_of line)) (map words_of (unless_empty (behind_labels line)) ++ normal others)
      (labels_inner (labels_of line) (h.0).labels)
      (each-append Inner (map words_of (unless_empty (behind_labels line))) (normal others)
      (behind_inner (behind_labels line) (behind_unlabelled line) (h.0).statement) (normal_inner others h.1))

-- No faults.
inner_fine : (wss others : List (List Word)) → Each Inner wss → LinesFine true others → LinesFine true (wss ++ others)
inner_fine [] others h k = k
inner_fine (ws ∷ wss) others h k =
    let same : after true (map bare ws) ≡ true = λ i. if (h.0).no_proc i then true else if (h.0).no_end i then false else true in
    ((h.0).fine, subst (λ b. LinesFine b (wss ++ others)) (sym same) (inner_fine wss others h.1 k))

proc_fine : (w : Word) → is_name_word w ≡ true → IsSoundWord w → IsFaultless false (bare (fixed (codes "proc")) ∷ bare w ∷ [])
proc_fine (name s) h f = record { words = (inl refl, (f, tt)); form = refl }
proc_fine (number n) h f = absurd (true≢false (sym h))
proc_fine (fixed s) h f = absurd (true≢false (sym h))

proc_opens : (w : Word) → is_name_word w ≡ true → has_form proc_form (bare (fixed (codes "proc")) ∷ bare w ∷ []) ≡ true
proc_opens (name s) h = refl
proc_opens (number n) h = absurd (true≢false (sym h))
proc_opens (fixed s) h = absurd (true≢false (sym h))

module _ (procedures variables : List (List ℕ)) where
  pub sections_lines_fine : (ss : List Section) → Each (SectionGood procedures variables) ss → LinesFine false (section_lines ss)
  sections_lines_fine [] h = refl
  sections_lines_fine (s ∷ ss) h =
      let title : LabelGood s.title = (h.0).title in
      let opens = proc_opens s.title.word title.named in
      let rest : LinesFine true ((fixed (codes "end") ∷ []) ∷ section_lines ss) =
      (record { words = (inl refl, tt); form = refl }, sections_lines_fine ss h.1) in (
        proc_fine s.title.word title.named title.sound,
        subst (λ b. LinesFine (if b then true else if has_form end_form (map bare (fixed (codes "proc") ∷ s.title.word ∷ [])) then false
            else false) (normal s.body ++ ((fixed (codes "end") ∷ []) ∷ section_lines ss))) (sym opens)
            (inner_fine (normal s.body) ((fixed (codes "end") ∷ []) ∷ section_lines ss)
            (normal_inner (names_for procedures variables s) s.body (h.0).body) rest),
      )

-- The sections of the listing.
inner_run : (wss : List (List Word)) (others : List (List Token)) → Each Inner wss
    → take_while is_inner (bare_lines wss ++ (bare (fixed (codes "end")) ∷ []) ∷ others) ≡ bare_lines wss
inner_run [] others h = refl
inner_run (ws ∷ wss) others h =
    let rest : List (List Token) = bare_lines wss ++ (bare (fixed (codes "end")) ∷ []) ∷ others in
    ap (λ n. take n (map bare ws ∷ rest))
    ((λ i. cond (not ((h.0).no_proc i || (h.0).no_end i)) (1 + prefix_len is_inner rest) 0) ∙ one-add (prefix_len is_inner rest))
    ∙ ap (λ r. map bare ws ∷ r) (inner_run wss others h.1)

inner_past : (wss : List (List Word)) (others : List (List Token)) → Each Inner wss → sections_in (bare_lines wss ++ others) ≡ sections_in others
inner_past [] others h = refl
inner_past (ws ∷ wss) others h =
    ap (λ b. (if b then opened_by (map bare ws) (bare_lines wss ++ others) else []) ++ sections_in (bare_lines wss ++ others)) (h.0).no_proc
    ∙ inner_past wss others h.1

abbrev listed : Section → Section
listed s = record { title = erased s.title; body = bare_lines (normal s.body) }

section_listed : (w : Word) (wss : List (List Word)) (others : List (List Token)) → is_name_word w ≡ true → Each Inner wss
    → sections_in ((bare (fixed (codes "proc")) ∷ bare w ∷ []) ∷ (bare_lines wss ++ (bare (fixed (codes "end")) ∷ []) ∷ others))
    ≡ record { title = bare w; body = bare_lines wss } ∷ sections_in others
section_listed w wss others h k =
    let rest : List (List Token) = bare_lines wss ++ (bare (fixed (codes "end")) ∷ []) ∷ others in
    ap (λ b. (if b then opened_by (bare (fixed (codes "proc")) ∷ bare w ∷ []) rest else []) ++ sections_in rest) (proc_opens w h)
    ∙ (λ i. (let s : Section = record { title = bare w; body = inner_run wss others k i } in s)
    ∷ inner_past wss ((bare (fixed (codes "end")) ∷ []) ∷ others) k i)

-- The cores of the sections.
labels_front : (ts : List Token) (wss : List (List Word)) → Each LabelGood ts
    → flat_map labels_of (bare_lines (map label_line ts ++ wss)) ≡ all_erased ts ++ flat_map labels_of (bare_lines wss)
labels_front [] wss h = refl
labels_front (t ∷ ts) wss h = λ i. (labelled t.word (h.0).named).0 i ++ labels_front ts wss h.1 i

labels_rest : (ts : List Token) (wss : List (List Word)) → labels_of ts ≡ []
    → flat_map labels_of (bare_lines (map words_of (unless_empty ts) ++ wss)) ≡ flat_map labels_of (bare_lines wss)
labels_rest [] wss h = refl
labels_rest (t ∷ ts) wss h = ap (λ r. r ++ flat_map labels_of (bare_lines wss)) (bare_unlabelled (t ∷ ts) h).0

places_front : (p : ℕ) (ts : List Token) (wss : List (List Word)) → Each LabelGood ts
    → label_places p (bare_lines (map label_line ts ++ wss)) ≡ map (λ t. p) ts ++ label_places p (bare_lines wss)
places_front p [] wss h = refl
places_front p (t ∷ ts) wss h =
    (λ i. map (λ u. p) ((labelled t.word (h.0).named).0 i)
    ++ label_places (p + length (unless_empty ((labelled t.word (h.0).named).1 i))) (bare_lines (map label_line ts ++ wss)))
    ∙ ap (λ q. p ∷ label_places q (bare_lines (map label_line ts ++ wss))) (let e : p + 0 ≡ p = omega arith in e)
    ∙ ap (λ r. p ∷ r) (places_front p ts wss h.1)

places_rest : (p : ℕ) (ts : List Token) (wss : List (List Word)) → labels_of ts ≡ []
    → label_places p (bare_lines (map words_of (unless_empty ts) ++ wss)) ≡ label_places (p + length (unless_empty ts)) (bare_lines wss)
places_rest p [] wss h = ap (λ q. label_places q (bare_lines wss)) (let e : p ≡ p + 0 = omega arith in e)
places_rest p (t ∷ ts) wss h = λ i. map (λ u. p) ((bare_unlabelled (t ∷ ts) h).0 i)
    ++ label_places (p + length (unless_empty ((bare_unlabelled (t ∷ ts) h).1 i))) (bare_lines wss)

statements_front : (ts : List Token) (wss : List (List Word)) → Each LabelGood ts
    → statements_of (bare_lines (map label_line ts ++ wss)) ≡ statements_of (bare_lines wss)
statements_front [] wss h = refl
statements_front (t ∷ ts) wss h = λ i. unless_empty ((labelled t.word (h.0).named).1 i) ++ statements_front ts wss h.1 i

statements_rest : (ts : List Token) (wss : List (List Word)) → labels_of ts ≡ []
    → statements_of (bare_lines (map words_of (unless_empty ts) ++ wss)) ≡ map all_erased (unless_empty ts) ++ statements_of (bare_lines wss)
statements_rest [] wss h = refl
statements_rest (t ∷ ts) wss h = ap (λ r. unless_empty r ++ statements_of (bare_lines wss)) (bare_unlabelled (t ∷ ts) h).1

module _ (names : Names) where
  labels_normal : (body : List (List Token)) → Each (LineGood names) body
      → flat_map labels_of (bare_lines (normal body)) ≡ all_erased (flat_map labels_of body)
  labels_normal [] h = refl
  labels_normal (line ∷ others) h =
      labels_front (labels_of line) (map words_of (unless_empty (behind_labels line)) ++ normal others) (h.0).labels
      ∙ ap (λ r. all_erased (labels_of line) ++ r)
      (labels_rest (behind_labels line) (normal others) (behind_unlabelled line) ∙ labels_normal others h.1)
      ∙ sym (map-append erased (labels_of line) (flat_map labels_of others))

  places_normal : (p : ℕ) (body : List (List Token)) → Each (LineGood names) body → label_places p (bare_lines (normal body)) ≡ label_places p body
  places_normal p [] h = refl
  places_normal p (line ∷ others) h =
      places_front p (labels_of line) (map words_of (unless_empty (behind_labels line)) ++ normal others) (h.0).labels
      ∙ ap (λ r. map (λ t. p) (labels_of line) ++ r) (places_rest p (behind_labels line) (normal others) (behind_unlabelled line)
      ∙ places_normal (p + length (unless_empty (behind_labels line))) others h.1)

  statements_normal : (body : List (List Token)) → Each (LineGood names) body
      → statements_of (bare_lines (normal body)) ≡ map all_erased (statements_of body)
  statements_normal [] h = refl
  statements_normal (line ∷ others) h =
      statements_front (labels_of line) (map words_of (unless_empty (behind_labels line)) ++ normal others) (h.0).labels
      ∙ statements_rest (behind_labels line) (normal others) (behind_unlabelled line)
      ∙ ap (λ r. map all_erased (unless_empty (behind_labels line)) ++ r) (statements_normal others h.1)
      ∙ sym (map-append all_erased (unless_empty (behind_labels line)) (statements_of others))

  core_listed : (s : Section) → Each (LineGood names) s.body → core (listed s) ≡ core s
  core_listed s h = λ i. record {
    title = erased s.title;
    labels = (ap all_erased (labels_normal s.body h) ∙ erased_twice (flat_map labels_of s.body)) i;
    places = places_normal 0 s.body h i;
    statements = (ap (map all_erased) (statements_normal s.body h) ∙ each_twice (statements_of s.body)) i;
  }

module _ (procedures variables : List (List ℕ)) where
  pub cores_listed : (ss : List Section) → Each (SectionGood procedures variables) ss
      → map core (sections_in (bare_lines (section_lines ss))) ≡ map core ss
  cores_listed [] h = refl
  cores_listed (s ∷ ss) h =
      let names : Names = names_for procedures variables s in
      let inner = normal_inner names s.body (h.0).body in
      ap (λ ls. map core (sections_in ((bare (fixed (codes "proc")) ∷ erased s.title ∷ []) ∷ ls)))
      (map-append (map bare) (normal s.body) ((fixed (codes "end") ∷ []) ∷ section_lines ss))
      ∙ ap (map core) (section_listed s.title.word (normal s.body) (bare_lines (section_lines ss)) ((h.0).title).named inner)
      ∙ (λ i. core_listed names s (h.0).body i ∷ cores_listed ss h.1 i)
