-- The names of variables, one line and one section after another.
use Rattle.std.proofs.Common.{◌≡◌, ℕ, ◌+◌, ◌<◌, List, [], ◌++◌, length, drop, fold, flat_map, map, refl, sym, ap, ◌∙◌, slice_index_or}
use Rattle.std.proofs.lemmas.List.{at_drop_more, map-append}
use Rattle.std.proofs.lemmas.List.Sums.{fold-append}
use Rattle.tac_lines.specs.Tokens.{Token, spelling_of}
use Rattle.tac_lines.specs.Forms.{behind_labels}
use Rattle.tac_reader.specs.Parses.{names_in}
use Rattle.tac_program.specs.Names.{noted}
use Rattle.tac_reader.specs.Sections.{Section, statements_of, variables_of}
use Rattle.tac_lines.specs.code.Ranges.{range_view}
use Rattle.tac_reader.specs.code.SectionViews.{section_view, sections_view}
use Rattle.tac_lines.specs.declared.lexed.LineRange.{LineRange}
use Rattle.tac_reader.specs.declared.section.Section.{Section as Read}
use Rattle.tac_lines.specs.declared.token.Token.{Token as Lexed}
use Rattle.tac_reader.proofs.sections.SectionSteps.{parts_on}

-- Names that are noted, and then others, are noted together.
noted_both : (these others : List Token) (table next : List (List ℕ)) → next ≡ fold noted table (names_in these)
    → fold noted next (names_in others) ≡ fold noted table (names_in (these ++ others))
noted_both these others table next grown =
    ap (λ t. fold noted t (names_in others)) grown
    ∙ sym (fold-append noted table (names_in these) (names_in others))
    ∙ ap (fold noted table) (sym (map-append spelling_of these others))

abbrev line_names : List (List Token) → List Token
line_names lines = flat_map variables_of (statements_of lines)

-- The names of one line more.
pub noted_line : (text : List ℕ) (all : List Lexed) (lines : List LineRange) (at : ℕ) (d : LineRange) (table next whole : List (List ℕ))
    → at < length lines → next ≡ fold noted table (names_in (variables_of (behind_labels (range_view text all (slice_index_or lines at d)))))
    → fold noted table (names_in (line_names (map (range_view text all) (drop at lines)))) ≡ whole
    → fold noted next (names_in (line_names (map (range_view text all) (drop (at + 1) lines)))) ≡ whole
noted_line text all lines at d table next whole below grown before =
    let these = variables_of (behind_labels (range_view text all (slice_index_or lines at d))) in
    noted_both these (line_names (map (range_view text all) (drop (at + 1) lines))) table next grown
    ∙ ap (λ ts. fold noted table (names_in ts)) (parts_on text all variables_of refl lines at d [] these _ below refl refl)
    ∙ before

abbrev section_names : Section → List Token
section_names s = line_names s.body

-- The names of one section more.
pub noted_on : (text : List ℕ) (sections : List Read) (at : ℕ) (d : Read) (table next whole : List (List ℕ)) → at < length sections
    → next ≡ fold noted table (names_in (section_names (section_view text (slice_index_or sections at d))))
    → fold noted table (names_in (flat_map section_names (sections_view text (drop at sections)))) ≡ whole
    → fold noted next (names_in (flat_map section_names (sections_view text (drop (at + 1) sections)))) ≡ whole
noted_on text sections at d table next whole below grown before =
    noted_both (section_names (section_view text (slice_index_or sections at d)))
    (flat_map section_names (sections_view text (drop (at + 1) sections))) table next grown
    ∙ sym (at_drop_more (λ ss. fold noted table (names_in (flat_map section_names (sections_view text ss)))) sections at d below)
    ∙ before
