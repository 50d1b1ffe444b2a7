-- Lines that are read one after another.
use Rattle.std.proofs.Common.{◌≡◌, rules, refl, ℕ, suc, ◌∷◌, [], ◌++◌, List, Bool, true, false, not, Option, Some, None, Result, Ok, Err, length}
use Rattle.std.proofs.Common.{◌==◌, ◌&&◌, bytes_eq, if◌then◌else◌, sym, ap, ◌∙◌, cond, subst, append_assoc}
use Rattle.std.specs.List.{slice_split, onto_first}
use Rattle.part_texts.specs.Lines.{Line, is_line_feed, read_line}
use Rattle.part_texts.specs.Parts.{end_words, fault_behind, is_end, read_lines, with_line}
use Rattle.part_texts.specs.code.ReadParts.{IsCut, IsWhole}
use Rattle.part_texts.specs.declared.fault.PartFault.{PartFault}
use Rattle.part_texts.specs.declared.fault.PartFault.TheVariants.{CutShort, NoPart}
use Rattle.part_texts.specs.declared.form.PartForm.{PartForm}

-- what is read of lines behind these
abbrev pub behind : List Line → Result (List Line) PartFault → Result (List Line) PartFault
behind lines (Ok others) = Ok (lines ++ others)
behind lines (Err fault) = Err fault

pub behind_none : (found : Result (List Line) PartFault) → behind [] found ≡ found
behind_none (Ok others) = refl
behind_none (Err fault) = refl

pub behind_more : (lines : List Line) (line : Line) (found : Result (List Line) PartFault) → behind (lines ++ line ∷ []) found
    ≡ behind lines (with_line line found)
behind_more lines line (Ok others) = ap Ok (append_assoc lines (line ∷ []) others)
behind_more lines line (Err fault) = refl

first_not_empty : (b : ℕ) (parts : List (List ℕ)) → is_end (onto_first b parts) ≡ false
first_not_empty b [] = refl
first_not_empty b (part ∷ parts) = refl

more_stand : (text : List ℕ) → is_end ([] ∷ slice_split is_line_feed text) ≡ false
more_stand [] = refl
more_stand (b ∷ text) = by (is_line_feed b)
  where
    by : (test : Bool) → is_end ([] ∷ cond test ([] ∷ slice_split is_line_feed text) (onto_first b (slice_split is_line_feed text))) ≡ false
    by true = refl
    by false = by_parts (slice_split is_line_feed text)
      where
        by_parts : (parts : List (List ℕ)) → is_end ([] ∷ onto_first b parts) ≡ false
        by_parts [] = refl
        by_parts (part ∷ parts) = refl

-- nothing stands behind the last line feed where the text behind it is empty
pub ends_there : (text : List ℕ) → is_end (slice_split is_line_feed text) ≡ (length text == 0)
ends_there [] = refl
ends_there (b ∷ text) = by (is_line_feed b) ∙ sym (some_stand (length text))
  where
    some_stand : (n : ℕ) → (suc n == 0) ≡ false
    some_stand n = search rules

    by : (test : Bool) → is_end (cond test ([] ∷ slice_split is_line_feed text) (onto_first b (slice_split is_line_feed text))) ≡ false
    by true = more_stand text
    by false = first_not_empty b (slice_split is_line_feed text)

fault_of_more : (text : List ℕ) → fault_behind (slice_split is_line_feed text) ≡ NoPart
fault_of_more [] = refl
fault_of_more (b ∷ text) = by (is_line_feed b)
  where
    by_parts : (parts : List (List ℕ)) → fault_behind (onto_first b parts) ≡ NoPart
    by_parts [] = refl
    by_parts (part ∷ parts) = refl

    by : (test : Bool) → fault_behind (cond test ([] ∷ slice_split is_line_feed text) (onto_first b (slice_split is_line_feed text))) ≡ NoPart
    by true = refl
    by false = by_parts (slice_split is_line_feed text)

-- what is read of a line and those behind it
abbrev stepped : Bool → Option Line → Result (List Line) PartFault → PartFault → Result (List Line) PartFault
stepped last found others fault = if last then Ok [] else elim found [ Some line ↦ with_line line others | None ↦ Err fault ]

after_line : (form : PartForm) (part : ℕ) (line after : List ℕ) → read_lines form part (line ∷ slice_split is_line_feed after)
    ≡ stepped (bytes_eq line (end_words form part) && (length after == 0)) (read_line form part line) (read_lines form part (slice_split is_line_feed after)) NoPart
after_line form part line after =
    ap (λ e. stepped (bytes_eq line (end_words form part) && e) (read_line form part line) (read_lines form part (slice_split is_line_feed after))
    (fault_behind (slice_split is_line_feed after))) (ends_there after)
    ∙ ap (stepped (bytes_eq line (end_words form part) && (length after == 0)) (read_line form part line) (read_lines form part (slice_split is_line_feed after)))
    (fault_of_more after)

-- the steps of a reader, line by line
pub reads_end : (form : PartForm) (part : ℕ) (text line after : List ℕ) → IsCut is_line_feed text line after
    → bytes_eq line (end_words form part) && (length after == 0) ≡ true
    → read_lines form part (slice_split is_line_feed text) ≡ Ok []
reads_end form part text line after cut last = ap (read_lines form part) cut.split ∙ after_line form part line after
    ∙ ap (λ b. stepped b (read_line form part line) (read_lines form part (slice_split is_line_feed after)) NoPart) last

pub reads_line : (form : PartForm) (part : ℕ) (text line after : List ℕ) (found : Line) → IsCut is_line_feed text line after
    → bytes_eq line (end_words form part) && (length after == 0) ≡ false → read_line form part line ≡ Some found
    → read_lines form part (slice_split is_line_feed text) ≡ with_line found (read_lines form part (slice_split is_line_feed after))
reads_line form part text line after found cut goes reads = ap (read_lines form part) cut.split ∙ after_line form part line after
    ∙ ap (λ b. stepped b (read_line form part line) (read_lines form part (slice_split is_line_feed after)) NoPart) goes
    ∙ ap (λ found. stepped false found (read_lines form part (slice_split is_line_feed after)) NoPart) reads

pub reads_fault : (form : PartForm) (part : ℕ) (text line after : List ℕ) → IsCut is_line_feed text line after
    → bytes_eq line (end_words form part) && (length after == 0) ≡ false → read_line form part line ≡ None
    → read_lines form part (slice_split is_line_feed text) ≡ Err NoPart
reads_fault form part text line after cut goes reads = ap (read_lines form part) cut.split ∙ after_line form part line after
    ∙ ap (λ b. stepped b (read_line form part line) (read_lines form part (slice_split is_line_feed after)) NoPart) goes
    ∙ ap (λ found. stepped false found (read_lines form part (slice_split is_line_feed after)) NoPart) reads

no_end : (b : Bool) → b && false ≡ false
no_end true = refl
no_end false = refl

never : (found : Option Line) → stepped false found (Err CutShort) CutShort ≡ Err CutShort
never (Some line) = refl
never None = refl

pub reads_short : (form : PartForm) (part : ℕ) (text : List ℕ) → IsWhole is_line_feed text → read_lines form part (slice_split is_line_feed text) ≡ Err CutShort
reads_short form part text whole =
    ap (read_lines form part) whole.split
    ∙ ap (λ b. stepped b (read_line form part text) (Err CutShort) CutShort) (no_end (bytes_eq text (end_words form part)))
    ∙ never (read_line form part text)
