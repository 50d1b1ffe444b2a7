-- The lines of a listing, by their words.
use Rattle.std.proofs.Common.{◌≡◌, ◌≢◌, ℕ, suc, ◌+◌, ◌<◌, ◌⊎◌, inl, inr, true, List, [], ◌∷◌, ◌++◌, length, map, flat_map, refl, sym, ap, ◌∙◌, subst}
use Rattle.std.proofs.Common.{arith, None, codes, append_assoc, true≢false, if◌then◌else◌, ◌==◌, length-append}
use Rattle.std.specs.List.{AllByRecursion as Each, list_all, onto_first}
use Rattle.std.proofs.lemmas.List.{map-append}
use Rattle.std.proofs.lemmas.Bool.Decides.{nat_tests}
use Rattle.std.proofs.lemmas.Bool.{and_parts, not-true}
use Rattle.tac_lines.specs.Text.{is_line_end, no_line_end, lines}
use Rattle.tac_lines.specs.Tokens.{Word, name, number, fixed, Token, Row, rows_from, bytes_of, spelling_of, unless_empty}
use Rattle.tac_lines.specs.Forms.{labels_of, behind_labels, is_name_word}
use Rattle.tac_reader.specs.Sections.{Section, titles, statements_of}
use Rattle.tac_reader.specs.Parses.{names_in, names_for, statement_of, label_places, labels_from, procedures_from}
use Rattle.tac_program.specs.Names.{Names, name_at}
use Rattle.tac_listing.specs.Listings.{statement_text, labels_text, places_text, procedure_text}
use Rattle.tac_program.specs.declared.program.Label.{Label}
use Rattle.tac_program.specs.declared.program.Stmt.{Stmt}
use Rattle.tac_listing.proofs.layouts.ListingTexts.{nothing_at}
use Rattle.tac_reader.proofs.tokens.Bare.{words_of}
use Rattle.tac_reader.proofs.sections.Cores.{kind_in}
use Rattle.tac_reader.proofs.tokens.ReadWords.{spelled, ReadsLine, line_word, line_blank, line_more, line_label}
use Rattle.tac_reader.proofs.layouts.Layouts.{filled, layout_reads, laid, statements_laid}
use Rattle.tac_reader.proofs.programs.ResolvedWords.{statement_written, row_has_form, row_passes}
use Rattle.tac_reader.proofs.lines.FaultlessLines.{IsSoundWord, Sound}
use Rattle.tac_reader.proofs.sections.GoodSections.{LabelGood, StatementGood, LineGood, SectionGood}

-- What the lines of a text are read as, wherever it stands.
pub record ReadsLines (text : List ℕ) (wss : List (List Word)) : Type 0 where
  pub words : (place : ℕ) → map (λ row. words_of row.tokens) (rows_from place (lines text)) ≡ wss
  pub whole : (place : ℕ) → Each (λ row. row.bad ≡ None) (rows_from place (lines text))

no_lines : ReadsLines [] []
no_lines = record { words = λ place. refl; whole = λ place. tt }

lines_first : (l rest : List ℕ) → list_all no_line_end l ≡ true → lines (l ++ 10 ∷ rest) ≡ (l ++ 10 ∷ []) ∷ lines rest
lines_first [] rest h = refl
lines_first (b ∷ l) rest h =
    let parts = and_parts (no_line_end b) (list_all no_line_end l) h in
    ap (λ t. if t then (b ∷ []) ∷ lines (l ++ 10 ∷ rest) else onto_first b (lines (l ++ 10 ∷ rest))) (not-true (is_line_end b) parts.0)
    ∙ ap (onto_first b) (lines_first l rest parts.1)

first_line : (l rest : List ℕ) (ws : List Word) (wss : List (List Word)) → ReadsLine l ws → ReadsLines rest wss
    → ReadsLines (l ++ 10 ∷ rest) (ws ∷ wss)
first_line l rest ws wss h k =
    let cut = lines_first l rest h.no_end in
    let line : List ℕ = l ++ 10 ∷ [] in
    record {
      words = λ place. ap (λ ls. map (λ (row : Row). words_of row.tokens) (rows_from place ls)) cut
          ∙ (λ i. (h.reads).words place i ∷ k.words (place + length line) i);
      whole = λ place.
          subst (λ ls. Each (λ (row : Row). row.bad ≡ None) (rows_from place ls)) (sym cut) ((h.reads).whole place, k.whole (place + length line));
    }

-- The lines of a procedure: each label, and each statement, on a line of its own.
abbrev pub label_line : Token → List Word
label_line t = t.word ∷ fixed (codes ":") ∷ []

abbrev pub normal : List (List Token) → List (List Word)
normal [] = []
normal (line ∷ others) = map label_line (labels_of line) ++ (map words_of (unless_empty (behind_labels line)) ++ normal others)

abbrev pub section_lines : List Section → List (List Word)
section_lines [] = []
section_lines (s ∷ ss) = (fixed (codes "proc") ∷ s.title.word ∷ []) ∷ (normal s.body ++ ((fixed (codes "end") ∷ []) ∷ section_lines ss))

-- The labels of a place, one at a time.
all_at : (p : ℕ) (xs : List ℕ) → (if p == p then xs else []) ≡ xs
all_at p xs = grind (arith, nat_tests)

abbrev label_at : ℕ → ℕ → Label
label_at k p = record { name = k; place = p }

module _ (names : Names) where
  later_label : (q p k : ℕ) (ls : List Label) (stmts : List Stmt) → p < q
      → places_text names q (label_at k p ∷ ls) stmts ≡ places_text names q ls stmts
  later_label q p k ls [] h =
      let apart : p ≢ q = omega (arith, h) in
      ap (λ r. r ++ labels_text names q ls) (nothing_at q p (name_at names.labels k ++ codes ":\n") apart)
  later_label q p k ls (s ∷ ss) h =
      let apart : p ≢ q = omega (arith, h) in
      λ i. (nothing_at q p (name_at names.labels k ++ codes ":\n") apart i ++ labels_text names q ls) ++ codes "  " ++ statement_text names s.kind
      ++ codes "\n" ++ later_label (suc q) p k ls ss (omega (arith, h)) i

  six : (x a b c d e : List ℕ) → ((((x ++ a) ++ b) ++ c) ++ d) ++ e ≡ x ++ ((((a ++ b) ++ c) ++ d) ++ e)
  six x a b c d e = simp append_assoc

  now_label : (p k : ℕ) (ls : List Label) (stmts : List Stmt)
      → places_text names p (label_at k p ∷ ls) stmts ≡ (name_at names.labels k ++ codes ":\n") ++ places_text names p ls stmts
  now_label p k ls [] = ap (λ r. r ++ labels_text names p ls) (all_at p (name_at names.labels k ++ codes ":\n"))
  now_label p k ls (s ∷ ss) =
      (λ i. (all_at p (name_at names.labels k ++ codes ":\n") i ++ labels_text names p ls) ++ codes "  " ++ statement_text names s.kind ++ codes "\n"
      ++ later_label (suc p) p k ls ss (omega arith) i)
      ∙ six (name_at names.labels k ++ codes ":\n") (labels_text names p ls) (codes "  ") (statement_text names s.kind) (codes "\n")
      (places_text names (suc p) ls ss)

  no_label : (p k : ℕ) (qs : List ℕ) → Each (λ q. p < q) qs → labels_text names p (labels_from k qs) ≡ []
  no_label p k [] h = refl
  no_label p k (q ∷ qs) h =
      let first : p < q = h.0 in
      let apart : q ≢ p = omega (arith, first) in
      λ i. nothing_at p q (name_at names.labels k ++ codes ":\n") apart i ++ no_label p (suc k) qs h.1 i

places_behind : (p q : ℕ) (body : List (List Token)) → p < q → Each (λ r. p < r) (label_places q body)
places_behind p q [] h = tt
places_behind p q (line ∷ others) h =
    joined (labels_of line) (places_behind p (q + length (unless_empty (behind_labels line))) others (omega (arith, h))) where
      joined : (ts : List Token) → Each (λ r. p < r) (label_places (q + length (unless_empty (behind_labels line))) others)
          → Each (λ r. p < r) (map (λ t. q) ts ++ label_places (q + length (unless_empty (behind_labels line))) others)
      joined [] k = k
      joined (t ∷ ts) k = (h, joined ts k)

-- The name behind some names, and words that are names.
at_seam : (before others : List (List ℕ)) (x : List ℕ) → name_at (before ++ x ∷ others) (length before) ≡ x
at_seam [] others x = refl
at_seam (b ∷ bs) others x = at_seam bs others x

name_spelled : (w : Word) → is_name_word w ≡ true → bytes_of w ≡ spelled w
name_spelled (name s) h = refl
name_spelled (number n) h = absurd (true≢false (sym h))
name_spelled (fixed s) h = refl

label_reads : (w : Word) → is_name_word w ≡ true → IsSoundWord w → ReadsLine (bytes_of w ++ codes ":") (w ∷ fixed (codes ":") ∷ [])
label_reads (name s) h k = line_label s k
label_reads (number n) h k = absurd (true≢false (sym h))
label_reads (fixed s) h k = absurd (true≢false (sym h))

module _ (text : List ℕ) (names : Names) (rest : List ℕ) where
  -- The labels of a line; those of the names `before` are listed already.
  labels_read : (ts : List Token) (p k : ℕ) (before others : List (List ℕ)) (qs : List ℕ) (stmts : List Stmt) (wss : List (List Word))
      → names.labels ≡ before ++ (names_in ts ++ others)
      → length before ≡ k
      → Each LabelGood ts
      → ((j : ℕ) (front : List (List ℕ)) → names.labels ≡ front ++ others → length front ≡ j
      → ReadsLines (places_text names p (labels_from j qs) stmts ++ rest) wss)
      → ReadsLines (places_text names p (labels_from k (map (λ t. p) ts ++ qs)) stmts ++ rest) (map label_line ts ++ wss)
  labels_read [] p k before others qs stmts wss e size good later = later k before e size
  labels_read (t ∷ ts) p k before others qs stmts wss e size good later =
      let x : List ℕ = spelling_of t in
      let this : name_at names.labels k ≡ x = (λ i. name_at (e i) (sym size i)) ∙ at_seam before (names_in ts ++ others) x in
      let more : List ℕ = places_text names p (labels_from (suc k) (map (λ t. p) ts ++ qs)) stmts in
      let longer : length (before ++ x ∷ []) ≡ suc k =
      length-append before (x ∷ []) ∙ (let n : length before + 1 ≡ suc k = omega (arith, size) in n) in
      let bytes : (x ++ codes ":") ++ 10 ∷ (more ++ rest) ≡ places_text names p (labels_from k (map (λ t. p) (t ∷ ts) ++ qs)) stmts ++ rest =
      split x more ∙ sym (ap (λ r. r ++ rest) (now_label names p k (labels_from (suc k) (map (λ t. p) ts ++ qs)) stmts
      ∙ ap (λ y. (y ++ codes ":\n") ++ more) this)) in
      subst (λ r. ReadsLines r (label_line t ∷ (map label_line ts ++ wss))) bytes
      (first_line (x ++ codes ":") (more ++ rest) (label_line t) (map label_line ts ++ wss) (label_reads t.word (good.0).named (good.0).sound)
      (labels_read ts p (suc k) (before ++ x ∷ []) others qs stmts wss (e
      ∙ sym (append_assoc before (x ∷ []) (names_in ts ++ others))) longer good.1 later))
    where
      split : (x more : List ℕ) → (x ++ codes ":") ++ 10 ∷ (more ++ rest) ≡ ((x ++ codes ":\n") ++ more) ++ rest
      split x more = append_assoc x (codes ":") (10 ∷ (more ++ rest))
          ∙ sym (append_assoc (x ++ codes ":\n") more rest ∙ append_assoc x (codes ":\n") (more ++ rest))

  pub statement_reads : (ts : List Token) → StatementGood names ts → ReadsLine (statement_text names (kind_in names ts)) (words_of ts)
  statement_reads ts good =
      subst (λ l. ReadsLine l (words_of ts)) (sym (statement_written names ts good.row good.is_row good.resolved))
      (layout_reads good.row.1 (words_of ts) (filled good.row.1 ts (row_has_form ts good.row good.is_row)) (each_word ts good.words)
      (row_passes (λ row. laid row.1) ts good.row statements_laid good.is_row))
    where
      each_word : (us : List Token) → Each Sound us → Each IsSoundWord (words_of us)
      each_word [] h = tt
      each_word (u ∷ us) h = (h.0, each_word us h.1)

  rest_read : (ts : List Token) (p k : ℕ) (others : List (List Token)) (wss : List (List Word))
      → (ts ≡ []) ⊎ StatementGood names ts
      → ((q : ℕ) → ReadsLines (places_text names q (labels_from k (label_places q others)) (map (statement_of text names) (statements_of others))
      ++ rest) wss)
      → ReadsLines (places_text names p (labels_from k (label_places (p + length (unless_empty ts)) others))
      (map (statement_of text names) (unless_empty ts ++ statements_of others)) ++ rest) (map words_of (unless_empty ts) ++ wss)
  rest_read [] p k others wss good later =
      subst (λ q. ReadsLines (places_text names p (labels_from k (label_places q others)) (map (statement_of text names) (statements_of others))
      ++ rest) wss) (let e : p ≡ p + 0 = omega arith in e) (later p)
  rest_read (t ∷ ts) p k others wss (inl e) later = absurd (cc e)
  rest_read (t ∷ ts) p k others wss (inr good) later =
      let ls : List Label = labels_from k (label_places (suc p) others) in
      let stmts : List Stmt = map (statement_of text names) (statements_of others) in
      let line : List ℕ = statement_text names (kind_in names (t ∷ ts)) in
      let more : List ℕ = places_text names (suc p) ls stmts in
      let none : labels_text names p ls ≡ [] = no_label names p k (label_places (suc p) others) (places_behind p (suc p) others (omega arith)) in
      let bytes : (codes "  " ++ line) ++ 10 ∷ (more ++ rest) ≡ (labels_text names p ls ++ codes "  " ++ line ++ codes "\n" ++ more) ++ rest =
      split line more ∙ ap (λ r. (r ++ codes "  " ++ line ++ codes "\n" ++ more) ++ rest) (sym none) in
      subst (λ q. ReadsLines (places_text names p (labels_from k (label_places q others)) (map (statement_of text names) ((t ∷ ts)
      ∷ statements_of others)) ++ rest) (words_of (t ∷ ts) ∷ wss)) (let e : suc p ≡ p + 1 = omega arith in e)
      (subst (λ r. ReadsLines r (words_of (t ∷ ts) ∷ wss)) bytes
      (first_line (codes "  " ++ line) (more ++ rest) (words_of (t ∷ ts)) wss
      (line_blank (32 ∷ line) (words_of (t ∷ ts)) (line_blank line (words_of (t ∷ ts)) (statement_reads (t ∷ ts) good))) (later (suc p))))
    where
      split : (line more : List ℕ) → (codes "  " ++ line) ++ 10 ∷ (more ++ rest) ≡ ((codes "  " ++ line) ++ codes "\n" ++ more) ++ rest
      split line more =
          sym (append_assoc (codes "  " ++ line ++ codes "\n") more rest ∙ append_assoc (codes "  " ++ line) (codes "\n") (more ++ rest))

  body_reads : (body : List (List Token)) (p k : ℕ) (before : List (List ℕ)) (wss : List (List Word))
      → names.labels ≡ before ++ names_in (flat_map labels_of body)
      → length before ≡ k
      → Each (LineGood names) body
      → ReadsLines rest wss
      → ReadsLines (places_text names p (labels_from k (label_places p body)) (map (statement_of text names) (statements_of body)) ++ rest)
      (normal body ++ wss)
  body_reads [] p k before wss e size good h = h
  body_reads (line ∷ others) p k before wss e size good h =
      let behind : List (List Token) = unless_empty (behind_labels line) in
      let stmts : List Stmt = map (statement_of text names) (behind ++ statements_of others) in
      subst (ReadsLines (places_text names p (labels_from k (label_places p (line ∷ others))) stmts ++ rest))
      (sym (append_assoc (map label_line (labels_of line)) (map words_of behind ++ normal others) wss
      ∙ ap (λ r. map label_line (labels_of line) ++ r) (append_assoc (map words_of behind) (normal others) wss)))
      (labels_read (labels_of line) p k before (names_in (flat_map labels_of others)) (label_places (p + length behind) others) stmts
      (map words_of behind ++ (normal others ++ wss))
      (e ∙ ap (λ r. before ++ r) (map-append spelling_of (labels_of line) (flat_map labels_of others))) size (good.0).labels
      (λ j front f n.
      rest_read (behind_labels line) p j others (normal others ++ wss) (good.0).statement (λ q. body_reads others q j front wss f n good.1 h)))

-- The whole listing.
module _ (text : List ℕ) (procedures variables : List (List ℕ)) where
  title_reads : (w : Word) → IsSoundWord w → ReadsLine (codes "proc " ++ spelled w) (fixed (codes "proc") ∷ w ∷ [])
  title_reads w h = line_more (fixed (codes "proc")) (spelled w) (w ∷ []) (inl refl) (line_word w h)

  pub listing_reads : (ss : List Section) (n : ℕ) (before : List (List ℕ)) → procedures ≡ before ++ names_in (titles ss) → length before ≡ n
      → Each (SectionGood procedures variables) ss
      → ReadsLines (flat_map (procedure_text procedures variables) (procedures_from text procedures variables n ss)) (section_lines ss)
  listing_reads [] n before e size good = no_lines
  listing_reads (s ∷ ss) n before e size good =
      let names : Names = names_for procedures variables s in
      let x : List ℕ = spelling_of s.title in
      let this : spelled s.title.word ≡ name_at procedures n =
      sym ((λ i. name_at (e i) (sym size i)) ∙ at_seam before (names_in (titles ss)) x ∙ name_spelled s.title.word ((good.0).title).named) in
      let longer : length (before ++ x ∷ []) ≡ suc n =
      length-append before (x ∷ []) ∙ (let k : length before + 1 ≡ suc n = omega (arith, size) in k) in
      let others : List ℕ = flat_map (procedure_text procedures variables) (procedures_from text procedures variables (suc n) ss) in
      let later : ReadsLines others (section_lines ss) =
      listing_reads ss (suc n) (before ++ x ∷ []) (e ∙ sym (append_assoc before (x ∷ []) (names_in (titles ss)))) longer good.1 in
      let behind : List ℕ = codes "end" ++ 10 ∷ others in
      let places : List ℕ = places_text names 0 (labels_from 0 (label_places 0 s.body)) (map (statement_of text names) (statements_of s.body)) in
      let ended : ReadsLines behind ((fixed (codes "end") ∷ []) ∷ section_lines ss) =
      first_line (codes "end") others (fixed (codes "end") ∷ []) (section_lines ss) (line_word (fixed (codes "end")) (inl refl)) later in
      let body : ReadsLines (places ++ behind) (normal s.body ++ ((fixed (codes "end") ∷ []) ∷ section_lines ss)) =
      body_reads text names behind s.body 0 0 [] ((fixed (codes "end") ∷ []) ∷ section_lines ss) refl refl (good.0).body ended in
      subst (λ r. ReadsLines r (section_lines (s ∷ ss)))
      (ap (λ y. (codes "proc " ++ y) ++ 10 ∷ (places ++ behind)) this ∙ split (codes "proc " ++ name_at procedures n) places others)
      (first_line (codes "proc " ++ spelled s.title.word) (places ++ behind) (fixed (codes "proc") ∷ s.title.word ∷ [])
      (normal s.body ++ ((fixed (codes "end") ∷ []) ∷ section_lines ss)) (title_reads s.title.word ((good.0).title).sound) body)
    where
      split : (a b c : List ℕ) → a ++ 10 ∷ (b ++ (codes "end" ++ 10 ∷ c)) ≡ (a ++ codes "\n" ++ b ++ codes "end\n") ++ c
      split a b c = sym (append_assoc (a ++ codes "\n" ++ b) (codes "end\n") c ∙ append_assoc (a ++ codes "\n") b (codes "end\n" ++ c)
          ∙ append_assoc a (codes "\n") (b ++ (codes "end\n" ++ c)))
