-- The first fault of a list of parts, one part after another.
use Rattle.std.proofs.Common.{◌≡◌, ℕ, zero, suc, ◌+◌, ◌<◌, true, false, List, [], ◌∷◌, ◌++◌, length, map, flat_map, drop, refl, sym, ap, ◌∙◌, arith}
use Rattle.std.proofs.Common.{Option, Some, None, is_some, position, bytes_eq, if◌then◌else◌, slice_index_or, slice_get}
use Rattle.std.proofs.lemmas.Grind.{flat_map-append}
use Rattle.tac_lines.specs.Tokens.{Token, spelling_of, unless_empty}
use Rattle.tac_program.specs.Names.{is_one_of}
use Rattle.tac_lines.specs.Forms.{behind_labels, cells_of, in_slot, callees_of, is_callee}
use Rattle.tac_reader.specs.Sections.{statements_of, titles}
use Rattle.tac_reader.specs.code.SectionViews.{sections_view}
use Rattle.tac_reader.specs.Parses.{names_in}
use Rattle.tac_reader.specs.Faults.{head_of}
use Rattle.tac_lines.specs.LineFaults.{at}
use Rattle.tac_lines.specs.code.Views.{token_view, tokens_view}
use Rattle.tac_lines.specs.declared.fault.Fault.{Fault}
use Rattle.tac_lines.specs.code.Lexed.{IfFault}
use Rattle.tac_lines.specs.declared.fault.Stop.{Stop}
use Rattle.tac_lines.specs.declared.fault.Stop.TheVariants as stop
use Rattle.tac_lines.specs.declared.refusal.RefusalKind.{RefusalKind}
use Rattle.tac_reader.specs.declared.section.Section.{Section as Read}
use Rattle.tac_lines.specs.declared.token.Token.{Token as Lexed}
use Rattle.tac_program.proofs.known_names.NameTexts.{numbered}
use Rattle.tac_reader.proofs.sections.SectionSteps.{rest_at, of_line}
use Rattle.tac_reader.proofs.known_names.NameFaults.{none_head, head-front}

module _ {L V : Type 0} (faults : V → List Fault) (view : L → V) where
  -- A part without faults.
  pub fault_past : (xs : List L) (i : ℕ) (d : L) (whole : List Fault) → i < length xs → None ≡ head_of (faults (view (slice_index_or xs i d)))
      → flat_map faults (map view (drop i xs)) ≡ whole → flat_map faults (map view (drop (i + 1) xs)) ≡ whole
  fault_past xs i d whole below none before =
      sym (ap (λ r. flat_map faults (map view r)) (rest_at xs i d below)
      ∙ ap (λ r. r ++ flat_map faults (map view (drop (i + 1) xs))) (none_head (faults (view (slice_index_or xs i d))) (sym none)))
      ∙ before

  -- The first part with one.
  pub fault_here : (xs : List L) (i : ℕ) (d : L) (whole : List Fault) (f : Fault) → i < length xs
      → Some f ≡ head_of (faults (view (slice_index_or xs i d))) → flat_map faults (map view (drop i xs)) ≡ whole → head_of whole ≡ Some f
  fault_here xs i d whole f below found before =
      ap head_of (sym before ∙ ap (λ r. flat_map faults (map view r)) (rest_at xs i d below))
      ∙ head-front (faults (view (slice_index_or xs i d))) (flat_map faults (map view (drop (i + 1) xs))) f (sym found)

-- The fault of one name, by what its look-up in the table told.
abbrev pub one_unknown : RefusalKind → List Token → Token → List Fault
one_unknown kind known t = if is_one_of (spelling_of t) (names_in known) then [] else at kind t.start

module _ (kind : RefusalKind) (known : List Token) (text : List ℕ) where
  told : (t : Token) (name : List ℕ) (names : List (List ℕ)) (found : Option ℕ) → name ≡ spelling_of t → names ≡ names_in known
      → found ≡ position (bytes_eq name) names → is_some found ≡ is_one_of (spelling_of t) (names_in known)
  told t name names found e f g = ap is_some g ∙ numbered name names ∙ (λ i. is_one_of (e i) (f i))

  pub unknown_past : (tokens : List Lexed) (i : ℕ) (d : Lexed) (name : List ℕ) (names : List (List ℕ)) (found : Option ℕ) (whole : List Fault)
      → i < length tokens → name ≡ spelling_of (token_view text (slice_index_or tokens i d)) → names ≡ names_in known
      → found ≡ position (bytes_eq name) names → is_some found ≡ true → flat_map (one_unknown kind known) (tokens_view text (drop i tokens)) ≡ whole
      → flat_map (one_unknown kind known) (tokens_view text (drop (i + 1) tokens)) ≡ whole
  unknown_past tokens i d name names found whole below e f g is before =
      let t = token_view text (slice_index_or tokens i d) in
      fault_past (one_unknown kind known) (token_view text) tokens i d whole below
      (ap (λ b. head_of (if b then [] else at kind t.start)) (sym is ∙ told t name names found e f g)) before

  pub unknown_here : (tokens : List Lexed) (i : ℕ) (d : Lexed) (name : List ℕ) (names : List (List ℕ)) (found : Option ℕ) (whole : List Fault)
      → i < length tokens → name ≡ spelling_of (token_view text (slice_index_or tokens i d)) → names ≡ names_in known
      → found ≡ position (bytes_eq name) names → is_some found ≡ false → flat_map (one_unknown kind known) (tokens_view text (drop i tokens)) ≡ whole
      → head_of whole ≡ Some (record { kind = kind; place = (slice_index_or tokens i d).start })
  unknown_here tokens i d name names found whole below e f g is before =
      let t = token_view text (slice_index_or tokens i d) in
      fault_here (one_unknown kind known) (token_view text) tokens i d whole (record { kind = kind; place = t.start }) below
      (ap (λ b. head_of (if b then [] else at kind t.start)) (sym is ∙ told t name names found e f g)) before

-- Faults of statements, line by line: a line without a statement has none.
module _ (faults : List Token → List Fault) (none : faults [] ≡ []) where
  pub by_lines : (lines : List (List Token)) → flat_map (λ line. faults (behind_labels line)) lines ≡ flat_map faults (statements_of lines)
  by_lines [] = refl
  by_lines (line ∷ lines) =
      ap (λ r. faults (behind_labels line) ++ r) (by_lines lines)
      ∙ ap (λ r. r ++ flat_map faults (statements_of lines)) (sym (of_line faults none (behind_labels line)))
      ∙ sym (flat_map-append faults (unless_empty (behind_labels line)) (statements_of lines))

-- The callees of a line's call, in the emptied list.
pub callees_found : (text : List ℕ) (found cleared : List Lexed) (statement : List Token) → cleared ≡ []
    → tokens_view text found ≡ tokens_view text cleared ++ in_slot is_callee (cells_of statement) → tokens_view text found ≡ callees_of statement
callees_found text found cleared statement empty cells = cells ∙ (λ i. tokens_view text (empty i) ++ in_slot is_callee (cells_of statement))

-- What an image's image is at a place.
pub at_images : {X Y Z : Type 0} (f : Y → Z) (view : X → Y) (xs : List X) (i : ℕ) (d : X) (e : Z) → i < length xs
    → slice_index_or (map f (map view xs)) i e ≡ f (view (slice_index_or xs i d))
at_images f view [] i d e h = absurd (let never : ⊥ = omega (arith, h) in never)
at_images f view (x ∷ xs) zero d e h = refl
at_images f view (x ∷ xs) (suc i) d e h = at_images f view xs i d e (omega (arith, h))

-- A fact of a stop's fault, from another.
pub if_fault_weaker : (P Q : Fault → Type 0) (s : Stop) → ((f : Fault) → P f → Q f) → IfFault P s → IfFault Q s
if_fault_weaker P Q (stop.Fault f) weaker h = weaker f h
if_fault_weaker P Q stop.OutOfMemory weaker h = tt

module _ (kind : RefusalKind) (text : List ℕ) where
  pub none_past : (n : ℕ) (ss : List Read) → slice_get ss n ≡ None
      → None ≡ head_of (flat_map (λ t. at kind t.start) (drop n (titles (sections_view text ss))))
  none_past zero [] e = refl
  none_past zero (s ∷ ss) e = absurd (cc e)
  none_past (suc n) [] e = refl
  none_past (suc n) (s ∷ ss) e = none_past n ss e

  pub one_past : (n : ℕ) (ss : List Read) (s : Read) → slice_get ss n ≡ Some s
      → Some (record { kind = kind; place = s.title.start }) ≡ head_of (flat_map (λ t. at kind t.start) (drop n (titles (sections_view text ss))))
  one_past zero [] s e = absurd (cc e)
  one_past zero (u ∷ ss) s e = cc e
  one_past (suc n) [] s e = absurd (cc e)
  one_past (suc n) (u ∷ ss) s e = one_past n ss s e
