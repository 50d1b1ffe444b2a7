-- Procedures, one section after another.
use Rattle.std.proofs.Common.{◌≡◌, ℕ, zero, suc, ◌+◌, ◌<◌, List, [], ◌∷◌, ◌++◌, length, map, drop, refl, sym, ap, ◌∙◌, arith, slice_index_or, Option}
use Rattle.std.proofs.Common.{Some, option_to_list, append_assoc, length-append}
use Rattle.std.proofs.lemmas.List.{at_drop_more}
use Rattle.tac_program.specs.Programs.{Procedure}
use Rattle.tac_reader.specs.Parses.{names_in, procedure_of, procedures_from}
use Rattle.tac_reader.specs.Sections.{labels_in}
use Rattle.tac_reader.specs.code.SectionViews.{section_view, sections_view}
use Rattle.tac_reader.specs.declared.section.Section.{Section as Read}

-- The procedure of one section more.
pub built_on : (text cursor : List ℕ) (procedures variables : List (List ℕ)) (sections : List Read) (at : ℕ) (d : Read) (built next : List Procedure)
    (one : Procedure) (number : ℕ) (whole : List Procedure) → at < length sections → cursor ≡ text → number ≡ length built
    → one ≡ procedure_of cursor procedures variables number (section_view cursor (slice_index_or sections at d)) → next ≡ built ++ one ∷ []
    → built ++ procedures_from text procedures variables (length built) (sections_view text (drop at sections)) ≡ whole
    → next ++ procedures_from text procedures variables (length next) (sections_view text (drop (at + 1) sections)) ≡ whole
built_on text cursor procedures variables sections at d built next one number whole below same counted is pushed before =
    let s = section_view text (slice_index_or sections at d) in
    let others = sections_view text (drop (at + 1) sections) in
    let size : length next ≡ suc (length built) = ap length pushed ∙ length-append built (one ∷ []) ∙ omega arith in
    (λ i. pushed i ++ procedures_from text procedures variables (size i) others)
    ∙ append_assoc built (one ∷ []) (procedures_from text procedures variables (suc (length built)) others)
    ∙ ap (λ p. built ++ p ∷ procedures_from text procedures variables (suc (length built)) others)
    (is ∙ ap (λ t. procedure_of t procedures variables number (section_view t (slice_index_or sections at d))) same
    ∙ ap (λ n. procedure_of text procedures variables n s) counted)
    ∙ sym (at_drop_more (λ ss. built ++ procedures_from text procedures variables (length built) (sections_view text ss)) sections at d below)
    ∙ before

rest_of : (text : List ℕ) (sections : List Read) (at : ℕ) → drop 1 (map (λ s. names_in (labels_in s)) (sections_view text (drop at sections)))
    ≡ map (λ s. names_in (labels_in s)) (sections_view text (drop (at + 1) sections))
rest_of text [] zero = refl
rest_of text (s ∷ sections) zero = refl
rest_of text [] (suc at) = ap (λ n. map (λ s. names_in (labels_in s)) (sections_view text (drop n (let none : List Read = [] in none))))
    (let e : suc (at + 1) ≡ suc at + 1 = omega arith in e)
rest_of text (s ∷ sections) (suc at) = rest_of text sections at
    ∙ ap (λ n. map (λ s. names_in (labels_in s)) (sections_view text (drop n (s ∷ sections)))) (let e : suc (at + 1) ≡ suc at + 1 = omega arith in e)

-- The labels of the other sections are left.
pub labels_left : (text : List ℕ) (sections : List Read) (at : ℕ) (taken : Option (List (List ℕ))) (labels : List (List ℕ))
    (all others : List (List (List ℕ))) → taken ≡ Some labels → all ≡ option_to_list taken ++ others → all ≡ map (λ s. names_in (labels_in s))
    (sections_view text (drop at sections)) → others ≡ map (λ s. names_in (labels_in s)) (sections_view text (drop (at + 1) sections))
labels_left text sections at taken labels all others is parts known =
    sym (ap (λ o. drop 1 (option_to_list o ++ others)) is) ∙ sym (ap (drop 1) parts) ∙ ap (drop 1) known
    ∙ rest_of text sections at
