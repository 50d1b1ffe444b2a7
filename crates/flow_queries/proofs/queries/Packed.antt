-- The bits that are asked, and their columns.
use Rattle.std.proofs.Common.{◌≡◌, ◌∙◌, ◌⊎◌, ℕ, ◌+◌, ◌*◌, ◌/◌, ◌%◌, ◌<◌, Bool, true, false, List, [], ◌∷◌, ◌++◌, Option, Some, length}
use Rattle.std.proofs.Common.{slice_get, slice_index, slice_index_or, inl, inr, refl, sym, ap, subst, arith, length-append}
use native.Mathlib.Decide.{ℕ_discrete}
use mathlib.Core.Logic.{dite}
use Rattle.std.proofs.Math.ListN.{get_or-append}
use Rattle.std.proofs.lemmas.List.{get_or_push}
use Rattle.std.proofs.lemmas.Option.{slice_get_within}
use Rattle.bit_rows.specs.Words.{has_bit}
use Rattle.flow_graph.specs.AnalysisNumbers.{analysis_number}
use Rattle.flow_graph.specs.Universes.{bits}
use Rattle.flow_graph.specs.declared.analysis.Analysis.{Analysis}
use Rattle.flow_queries.specs.code.Boards.{Arranges}
use Rattle.flow_queries.specs.code.Directions.{selection_of}
use Rattle.flow_queries.specs.code.Packing.{AreAskedWords, AreMarksOf, ArePacked, HasAsked}
use Rattle.flow_queries.specs.declared.query.Query.{Query}
use Rattle.gen_kill.specs.Selections.{AreChosen, AreMarked, Selection, all_bits, some_bits}
use Rattle.tac_program.specs.Programs.{Program}

-- one query more
pub asked_more : (queries : List Query) (analysis : Analysis) (n : ℕ) (old new : List ℕ) (here : Query) → slice_get queries n ≡ Some here
    → length new ≡ length old
    → ((w k : ℕ) → has_bit (slice_index old w) k ≡ true → has_bit (slice_index new w) k ≡ true)
    → (here.analysis ≡ analysis → here.word < length old → (k : ℕ) → has_bit here.bits k ≡ true → has_bit (slice_index new here.word) k ≡ true)
    → AreAskedWords queries analysis n old → AreAskedWords queries analysis (n + 1) new
asked_more queries analysis n old new here at size kept added before = record {
  asked = λ q query k below there same within has. dite (ℕ_discrete q n)
      (λ last.
      let both : Some here ≡ Some query = sym at ∙ ap (slice_get queries) (sym last) ∙ there in
      let is : here ≡ query = cc both in
      subst (λ (a : Query). a.analysis ≡ analysis → a.word < length old → (j : ℕ) → has_bit a.bits j ≡ true → has_bit (slice_index new a.word) j ≡ true)
      is added same (omega (arith, within, size)) k has)
      (λ other. kept query.word k (before.asked q query k (omega (arith, below, other)) there same (omega (arith, within, size)) has));
}

-- one mark more
pub marks_more : (words : List ℕ) (marks : List Bool) (n : ℕ) (mark : Bool) → length marks ≡ n
    → mark ≡ has_bit (slice_index words (n / 64)) (n % 64) → AreMarksOf words marks → AreMarksOf words (marks ++ mark ∷ [])
marks_more words marks n mark size is before = record {
  each = λ bit below. dite (ℕ_discrete bit n)
      (λ last.
      get_or_push marks mark false bit (size ∙ sym last) ∙ is ∙ ap (λ (m : ℕ). has_bit (slice_index words (m / 64)) (m % 64)) (sym last))
      (λ other.
      let earlier : bit < length marks = omega (arith, below, other, size, length-append marks (mark ∷ [])) in
      get_or-append marks (mark ∷ []) false bit earlier ∙ before.each bit earlier);
}

-- marked bits may be chosen
pub marked_are_chosen : (program : Program) (analysis : Analysis) (marks : List Bool) (numbers : List ℕ) → length marks ≡ bits program analysis
    → AreMarked marks (length marks) numbers → AreChosen program analysis numbers
marked_are_chosen program analysis marks numbers size are = record {
  within = λ column there. omega (arith, are.below column there, size);
  rising = are.rising;
}

-- and each that is asked has a column then
pub asked_have_columns : (program : Program) (queries : List Query) (analysis : Analysis) (words : List ℕ) (marks : List Bool) (numbers : List ℕ)
    → length words ≡ (bits program analysis + 63) / 64 → length marks ≡ bits program analysis
    → AreAskedWords queries analysis (length queries) words → AreMarksOf words marks → AreMarked marks (length marks) numbers
    → HasAsked queries analysis (some_bits program analysis numbers)
asked_have_columns program queries analysis words marks numbers word_count mark_count asked are numbered = record {
  goes = refl;
  each = λ q query there same. record {
    goes = same;
    columns = λ k small has within.
        let bit : ℕ = 64 * query.word + k in
        let limit : bit < bits program analysis = subst (λ (a : Analysis). bit < bits program a) same within in
        let word : bit / 64 ≡ query.word = omega (arith, small) in
        let place : bit % 64 ≡ k = omega (arith, small) in
        let low : query.word < length words = omega (arith, limit, word_count) in
        let inside : bit < length marks = omega (arith, limit, mark_count) in
        let marked : slice_index_or marks bit false ≡ true =
        are.each bit inside ∙ ap (λ (n : ℕ). has_bit (slice_index words n) (bit % 64)) word ∙ ap (has_bit (slice_index words query.word)) place
        ∙ asked.asked q query k (slice_get_within queries q query there) there same low has in
        let found = numbered.all bit inside marked in
        (found.0, (found.1, found.2));
  };
}

-- where all bits are solved each is its own column
pub whole_has_asked : (program : Program) (queries : List Query) (analysis : Analysis) → HasAsked queries analysis (all_bits program analysis)
whole_has_asked program queries analysis = record {
  goes = refl;
  each = λ q query there same. record {
    goes = same;
    columns = λ k small has within.
        (64 * query.word + k, (subst (λ (a : Analysis). 64 * query.word + k < bits program a) same within, refl));
  };
}

-- what solves an analysis has the bits that are asked
pub solver_has_asked : (program : Program) (queries : List Query) (list : List (Option Selection)) → ArePacked program queries list
    → (analysis : Analysis) (selection : Selection)
    → (slice_get list (analysis_number analysis) ≡ Some (Some selection)) ⊎ (selection ≡ selection_of program analysis)
    → (selection.program ≡ program) × HasAsked queries analysis selection
solver_has_asked program queries list are analysis selection (inl packed) = are.each analysis (Some selection) packed selection refl
solver_has_asked program queries list are analysis selection (inr whole) =
    subst (λ (s : Selection). (s.program ≡ program) × HasAsked queries analysis s) (sym whole) (refl, whole_has_asked program queries analysis)

-- the same of the queries in their order
pub asked_in_order : (queries order : List Query) (places : List ℕ) → Arranges queries order places → (analysis : Analysis) (selection : Selection)
    → HasAsked queries analysis selection → HasAsked order analysis selection
asked_in_order queries order places arranged analysis selection has = record {
  goes = has.goes;
  each = λ j query there same.
      has.each (slice_index places j) query (sym (arranged.each j (omega (arith, slice_get_within order j query there, arranged.count))) ∙ there) same;
}
