-- The listing of a text's program is a text of the same program but for spans.
use Rattle.std.proofs.Common.{◌≡◌, ℕ, ◌≤◌, Bool, true, false, List, [], ◌∷◌, ◌++◌, length, map, refl, sym, ap, ◌∙◌, subst, None, option_map}
use Rattle.std.proofs.Common.{true≢false, codes}
use Rattle.std.specs.List.{AllByRecursion as Each}
use Rattle.tac_lines.specs.Tokens.{Word, fixed, Token, Row, rows, token_lines, unless_empty}
use Rattle.tac_lines.specs.Forms.{labels_of, behind_labels}
use Rattle.tac_reader.specs.Sections.{Section, sections, sections_in, titles}
use Rattle.tac_reader.specs.Parses.{names_in, variables_in, each_once, program_of}
use Rattle.tac_reader.specs.Faults.{name_faults, head_of, refusal_within, refusal_at}
use Rattle.tac_lines.specs.LineFaults.{line_faults, first_by_place}
use Rattle.tac_program.specs.Limits.{longest_text}
use Rattle.tac_program.specs.declared.limits.Limits.{Limits}
use Rattle.tac_listing.specs.Listings.{listing_of}
use Rattle.tac_reader.specs.Laws.{SameButSpans, ListingsReadBack}
use Rattle.tac_program.proofs.lists.Elements.{each-append}
use Rattle.tac_reader.proofs.tokens.Bare.{bare, all_erased, words_of, erased_words}
use Rattle.tac_reader.proofs.sections.Cores.{core, cores-erased, core_titles, core_variables, title_names, variable_names, outlines, outlines_are}
use Rattle.tac_reader.proofs.sections.CoreFaults.{no_faults_by_core}
use Rattle.tac_reader.proofs.known_names.NameFaults.{name_fault, none_head}
use Rattle.tac_reader.proofs.lines.FineRows.{LinesFine, no_line_faults}
use Rattle.tac_reader.proofs.programs.SoundPrograms.{no_faults, none_refused}
use Rattle.tac_reader.proofs.sections.GoodSections.{SectionGood, sections_good}
use Rattle.tac_reader.proofs.layouts.ListingLines.{ReadsLines, label_line, normal, section_lines, listing_reads}
use Rattle.tac_reader.proofs.layouts.ListingSections.{bare_lines, sections_lines_fine, cores_listed}

-- Each line of a listing has some words.
abbrev has_some : List Word → Bool
has_some [] = false
has_some (w ∷ ws) = true

abbrev HasSome : List Word → Type 0
HasSome ws = has_some ws ≡ true

labels_some : (ts : List Token) → Each HasSome (map label_line ts)
labels_some [] = tt
labels_some (t ∷ ts) = (refl, labels_some ts)

behind_some : (ts : List Token) → Each HasSome (map words_of (unless_empty ts))
behind_some [] = tt
behind_some (t ∷ ts) = (refl, tt)

normal_some : (body : List (List Token)) → Each HasSome (normal body)
normal_some [] = tt
normal_some (line ∷ others) =
    each-append HasSome (map label_line (labels_of line)) (map words_of (unless_empty (behind_labels line)) ++ normal others)
    (labels_some (labels_of line))
    (each-append HasSome (map words_of (unless_empty (behind_labels line))) (normal others) (behind_some (behind_labels line)) (normal_some others))

lines_some : (ss : List Section) → Each HasSome (section_lines ss)
lines_some [] = tt
lines_some (s ∷ ss) =
    (refl, each-append HasSome (normal s.body) ((fixed (codes "end") ∷ []) ∷ section_lines ss) (normal_some s.body) (refl, lines_some ss))

abbrev row_words : List Row → List (List Word)
row_words rs = map (λ row. words_of row.tokens) rs

bare_rows : (rs : List Row) → Each HasSome (row_words rs) → map all_erased (token_lines rs) ≡ bare_lines (row_words rs)
bare_rows [] h = refl
bare_rows (row ∷ others) h = go row.tokens h.0 (bare_rows others h.1) where
  go : (ts : List Token) → HasSome (words_of ts) → map all_erased (token_lines others) ≡ bare_lines (row_words others)
      → map all_erased (unless_empty ts ++ token_lines others) ≡ map bare (words_of ts) ∷ bare_lines (row_words others)
  go [] k e = absurd (true≢false (sym k))
  go (t ∷ ts) k e = λ i. erased_words (t ∷ ts) i ∷ e i

-- A text that is read as the lines of the sections of another has the same cores, and no faults either.
module _ (limits : Limits) (text listing : List ℕ) (accepted : refusal_within limits text ≡ None)
    (reads : ReadsLines listing (section_lines (sections text))) where
  abbrev ss : List Section
  ss = sections text

  abbrev us : List Section
  us = sections listing

  good : Each (SectionGood (names_in (titles (sections text))) (variables_in (sections text))) (sections text)
  good = sections_good limits text accepted

  same_cores : map core (sections listing) ≡ map core (sections text)
  same_cores =
      let rs : List Row = rows listing in
      sym (cores-erased (token_lines rs))
      ∙ ap (λ ls. map core (sections_in ls))
      (bare_rows rs (subst (Each HasSome) (sym (reads.words 0)) (lines_some ss)) ∙ ap bare_lines (reads.words 0))
      ∙ cores_listed (names_in (titles ss)) (variables_in ss) ss good

  not_refused : length listing ≤ longest_text limits → refusal_within limits listing ≡ None
  not_refused h =
      let lines_none : line_faults false (length listing) (rows listing) ≡ [] =
      no_line_faults false (length listing) (rows listing) (reads.whole 0)
      (subst (LinesFine false) (sym (reads.words 0)) (sections_lines_fine (names_in (titles ss)) (variables_in ss) ss good)) in
      let faultless = no_faults limits text (none_refused limits text accepted) in
      let names_none : name_faults limits us ≡ [] = no_faults_by_core limits ss us same_cores (none_head (name_faults limits ss) faultless.names) in
      ap (option_map (refusal_at listing)) (name_fault limits listing h (ap first_by_place lines_none) ∙ ap head_of names_none)

  same_program : SameButSpans (program_of listing) (program_of text)
  same_program =
      let titles_same : names_in (titles us) ≡ names_in (titles ss) =
      title_names us ∙ ap (λ cs. names_in (core_titles cs)) same_cores ∙ sym (title_names ss) in
      let variables_same : variables_in us ≡ variables_in ss =
      variable_names us ∙ ap (λ cs. each_once (names_in (core_variables cs))) same_cores ∙ sym (variable_names ss) in
      record {
        procedures = outlines_are listing (names_in (titles us)) (variables_in us) 0 us
            ∙ (λ i. outlines (titles_same i) (variables_same i) 0 (same_cores i))
            ∙ sym (outlines_are text (names_in (titles ss)) (variables_in ss) 0 ss);
        procedure_names = titles_same;
        variable_names = variables_same;
      }

pub listings_read_back : ListingsReadBack
listings_read_back limits text accepted short =
    let ss : List Section = sections text in
    let procedures : List (List ℕ) = names_in (titles ss) in
    let variables : List (List ℕ) = variables_in ss in
    let reads : ReadsLines (listing_of (program_of text)) (section_lines ss) =
    listing_reads text procedures variables ss 0 [] refl refl (sections_good limits text accepted) in
    record {
      accepted = not_refused limits text (listing_of (program_of text)) accepted reads short;
      same = same_program limits text (listing_of (program_of text)) accepted reads;
    }
