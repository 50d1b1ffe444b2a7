-- The queries of a round's points, and what their answers say.
use Rattle.std.proofs.Common.{◌≡◌, ◌∙◌, ℕ, suc, ◌+◌, ◌*◌, ◌<◌, ◌≤◌, List, [], ◌∷◌, ◌++◌, None, Some, length, slice_get, slice_index}
use Rattle.std.proofs.Common.{take, inl, inr, refl, sym, ap, subst, arith}
use Rattle.std.proofs.Math.ListN.{get_or-append}
use Rattle.std.proofs.Math.Seq.{get_or-append_seam}
use Rattle.std.proofs.lemmas.Bool.{cases_lt}
use Rattle.std.proofs.lemmas.List.{length-append}
use Rattle.busy_bounds.specs.BusyBounds.{IsLastWord, NoneVeryBusy}
use Rattle.flow_graph.specs.Analyses.{IsInTable}
use Rattle.flow_graph.specs.Universes.{bits}
use Rattle.flow_graph.specs.declared.analysis.Analysis.{Analysis}
use Rattle.flow_graph.specs.declared.analysis.Analysis.TheVariants.{Busy}
use Rattle.flow_queries.specs.Queries.{IsAnswerTo, IsWordAt}
use Rattle.flow_queries.specs.declared.query.Query.{Query}
use Rattle.report_answers.specs.code.Busy.{AreAsked, AreBusy, AsksBusy, NoneBusy, busy_query}
use Rattle.report_answers.specs.code.Busy.AreAsked.{asked_all, asks}
use Rattle.report_answers.specs.code.Querying.{Queries}
use Rattle.report_answers.specs.declared.chosen_bits.ChosenBits.{ChosenBits}
use Rattle.report_answers.specs.declared.busy_words.BusyWord.{BusyWord}
use Rattle.report_answers.proofs.busy.Lists.{passed}
use Rattle.report_answers.proofs.queries.Querying.{get_before, put_there}
use Rattle.tac_program.specs.Programs.{Program}

-- all queries stay where they are
abbrev pub AreKept : List Query → List Query → Type 0
AreKept old new = (q : ℕ) (query : Query) → slice_get old q ≡ Some query → slice_get new q ≡ Some query

module _ (program : Program) (point from : ℕ) where
  pub asked_kept : (old new : List Query) → AreKept old new → (until q r : ℕ) → AreAsked program old point from until q r
      → AreAsked program new point from until q r
  asked_kept old new kept _ _ _ (asked_all until q none) = asked_all until q none
  asked_kept old new kept _ _ _ (asks until q r query there busy past before none rest) =
      asks until q r query (kept q query there) busy past before none (asked_kept old new kept query.word (q + 1) r rest)

  pub asked_low : (queries : List Query) (until q r : ℕ) → AreAsked program queries point from until q r → q ≤ r
  asked_low queries _ _ _ (asked_all until q none) = omega arith
  asked_low queries _ _ _ (asks until q r query there busy past before none rest) =
      let low = asked_low queries query.word (q + 1) r rest in omega (arith, low)

  pub record IsNext (queries : List Query) (until q r : ℕ) : Type 0 where
    pub query : Query
    pub there : slice_get queries q ≡ Some query
    pub busy : AsksBusy program point query
    pub past : from ≤ query.word
    pub before : query.word < until
    pub none : NoneVeryBusy program point (query.word + 1) until
    pub rest : AreAsked program queries point from query.word (q + 1) r

  pub next_of : (queries : List Query) (until q r : ℕ) → q < r → AreAsked program queries point from until q r → IsNext queries until q r
  next_of queries _ _ _ low (asked_all until q none) = absurd (omega (arith, low))
  next_of queries _ _ _ low (asks until q r query there busy past before none rest) =
      record { query = query; there = there; busy = busy; past = past; before = before; none = none; rest = rest }

  pub none_left : (queries : List Query) (until q r : ℕ) → r ≤ q → AreAsked program queries point from until q r
      → NoneVeryBusy program point from until
  none_left queries _ _ _ high (asked_all until q none) = none
  none_left queries _ _ _ high (asks until q r query there busy past before none rest) =
      let low = asked_low queries query.word (q + 1) r rest in absurd (omega (arith, low, high))

  -- of a word that is asked for all that is very busy the answer is the whole word
  pub whole_word : (query : Query) (value : ℕ) → AsksBusy program point query → IsAnswerTo program query value
      → IsWordAt program (busy_query point query.word) value
  whole_word query value busy answer k small = (
    (λ has. let found = (answer k small).0 has in there query.analysis query.point busy.goes busy.at (found.1, found.2)),
    (λ found.
        let all = back query.analysis query.point busy.goes busy.at found in
        (answer k small).1 (busy.all k small found.0 found.1, all.0, all.1)),
  )
    where
      place : ℕ
      place = 64 * query.word + k

      there : (a : Analysis) (p : ℕ) → a ≡ Busy → p ≡ point → (place < bits program a) × IsInTable program a p place
          → (place < bits program Busy) × IsInTable program Busy point place
      there a p goes at is = subst (λ (b : Analysis). (place < bits program b) × IsInTable program b point place) goes
          (subst (λ x. (place < bits program a) × IsInTable program a x place) at is)

      back : (a : Analysis) (p : ℕ) → a ≡ Busy → p ≡ point → (place < bits program Busy) × IsInTable program Busy point place
          → (place < bits program a) × IsInTable program a p place
      back a p goes at is = subst (λ x. (place < bits program a) × IsInTable program a x place) (sym at)
          (subst (λ (b : Analysis). (place < bits program b) × IsInTable program b point place) (sym goes) is)

  -- what is not very busy is not among what is wanted and very busy
  pub none_wanted : (chosen : ChosenBits) (first until : ℕ) → NoneVeryBusy program point first until → NoneBusy chosen program point first until
  none_wanted chosen first until none bit low high is = none bit low high is.1 is.2

-- queries that were put behind others and given up leave the others
pub taken_back : (old new : List Query) → AreKept old new → take (length old) new ≡ old
taken_back [] new kept = refl
taken_back (one ∷ old) [] kept =
    let both : None ≡ Some one = kept 0 one refl in
    absurd (cc both)
taken_back (one ∷ old) (other ∷ new) kept =
    let both : Some other ≡ Some one = kept 0 one refl in
    let same : other ≡ one = cc both in
    ap (λ x. x ∷ take (length old) new) same ∙ ap (λ l. one ∷ l) (taken_back old new (λ q query there. kept (suc q) query there))

-- How far the words of a round are put before a point's list.
pub record IsPutTo (chosen : ChosenBits) (program : Program) (queries : List Query) (point from until q r : ℕ) (words : List BusyWord) (number : ℕ) : Type 0 where
  pub end : ℕ
  pub low : from ≤ end
  pub high : end ≤ until
  pub asked : AreAsked program queries point from end q r
  pub answered : AreBusy chosen program words point end number

-- the rest of the round's words have no bit
pub put_rest : (chosen : ChosenBits) (program : Program) (queries : List Query) (point from until q r : ℕ) (words : List BusyWord) (number : ℕ) → r ≤ q
    → IsPutTo chosen program queries point from until q r words number → AreBusy chosen program words point from number
put_rest chosen program queries point from until q r words number over put =
    passed chosen program point words from put.end number put.low
    (none_wanted program point from chosen from put.end (none_left program point from queries put.end q r over put.asked)) put.answered

-- where nothing is very busy behind a word, a list that tells behind that tells from the next word on
pub put_gap : (chosen : ChosenBits) (program : Program) (point word end : ℕ) (words : List BusyWord) (number : ℕ) → word < end
    → NoneVeryBusy program point (word + 1) end → AreBusy chosen program words point end number → AreBusy chosen program words point (suc word) number
put_gap chosen program point word end words number less none answered =
    passed chosen program point words (suc word) end number (omega (arith, less))
    (λ bit low high is. none bit (omega (arith, low)) high is.1 is.2) answered

-- the queries of the points before one, and of one more
pub record AreAskedTo (program : Program) (points : List ℕ) (from until test : ℕ) (starts : List ℕ) (queries : List Query) : Type 0 where
  pub count : length starts ≡ test + 1
  pub last : slice_index starts test ≡ length queries
  pub each : (i point : ℕ) → i < test → slice_get points i ≡ Some point
      → AreAsked program queries point from until (slice_index starts i) (slice_index starts (i + 1))

pub none_asked_to : (program : Program) (points : List ℕ) (from until count : ℕ) (starts : List ℕ) (queries : List Query) → length starts ≡ 0
    → count ≡ length queries → AreAskedTo program points from until 0 (starts ++ count ∷ []) queries
none_asked_to program points from until count starts queries none is = record {
  count = omega (arith, length-append starts (count ∷ []), none);
  last = ap (slice_index (starts ++ count ∷ [])) (sym none) ∙ get_or-append_seam starts count [] 0 ∙ is;
  each = λ i point low there. absurd (omega (arith, low));
}

pub asked_one_more : (program : Program) (points : List ℕ) (from until test point : ℕ) (starts : List ℕ) (old new : List Query) → AreKept old new
    → slice_get points test ≡ Some point → AreAsked program new point from until (length old) (length new)
    → AreAskedTo program points from until test starts old → AreAskedTo program points from until (test + 1) (starts ++ length new ∷ []) new
asked_one_more program points from until test point starts old new kept there asked before = record {
  count = omega (arith, length-append starts (length new ∷ []), before.count);
  last = last;
  each = λ i one low at. elim (cases_lt i test) [
    | inl less ↦
        subst (λ (a : ℕ). AreAsked program new one from until a (slice_index more (i + 1))) (sym (same i (omega (arith, less, before.count))))
        (subst (λ (b : ℕ). AreAsked program new one from until (slice_index starts i) b) (sym (same (i + 1) (omega (arith, less, before.count))))
        (asked_kept program one from old new kept until (slice_index starts i) (slice_index starts (i + 1)) (before.each i one less at)))
    | inr past ↦
        let is : test ≡ i = omega (arith, past, low) in
        let both : Some point ≡ Some one = sym there ∙ ap (slice_get points) is ∙ at in
        let named : point ≡ one = cc both in
        subst (λ j. AreAsked program new one from until (slice_index more j) (slice_index more (j + 1))) is
        (subst (λ (p : ℕ). AreAsked program new p from until (slice_index more test) (slice_index more (test + 1))) named
        (subst (λ (a : ℕ). AreAsked program new point from until a (slice_index more (test + 1)))
        (sym (same test (omega (arith, before.count)) ∙ before.last))
        (subst (λ (b : ℕ). AreAsked program new point from until (length old) b) (sym last) asked)))
  ];
}
  where
    more : List ℕ
    more = starts ++ length new ∷ []

    same : (i : ℕ) → i < length starts → slice_index more i ≡ slice_index starts i
    same i low = get_or-append starts (length new ∷ []) 0 i low

    last : slice_index more (test + 1) ≡ length new
    last = ap (slice_index more) (sym before.count) ∙ get_or-append_seam starts (length new) [] 0

-- Queries for a point's words from one on were put behind others: with those for the words before, they ask for all.
pub record IsAskedDown (program : Program) (old new : List Query) (point first end last : ℕ) : Type 0 where
  pub all : (final : List Query) (r : ℕ) → AreKept new final → AreAsked program final point first last (length new) r
      → AreAsked program final point first end (length old) r

pub none_asked_yet : (program : Program) (queries : List Query) (point first end : ℕ) → IsAskedDown program queries queries point first end end
none_asked_yet program queries point first end = record { all = λ final r kept rest. rest }

pub asked_down_more : (program : Program) (old mid new : List Query) (point first end last : ℕ) (query : Query) → new ≡ mid ++ query ∷ []
    → AsksBusy program point query → IsLastWord program point first last query.word → IsAskedDown program old mid point first end last
    → IsAskedDown program old new point first end query.word
asked_down_more program old mid new point first end last query is busy word before = record {
  all = λ final r kept rest.
      let here : slice_get final (length mid) ≡ Some query = kept (length mid) query (put_there mid new query is) in
      let count : length new ≡ length mid + 1 = ap length is ∙ length-append mid (query ∷ []) in
      before.all final r (λ q one there. kept q one (kept_before q one there))
      (asks last (length mid) r query here busy word.past word.before word.none_behind
      (subst (λ n. AreAsked program final point first query.word n r) count rest));
}
  where
    kept_before : (q : ℕ) (one : Query) → slice_get mid q ≡ Some one → slice_get new q ≡ Some one
    kept_before q one there = ap (λ (l : List Query). slice_get l q) is ∙ get_before mid (query ∷ []) q one there

pub queries_wider : (chosen : ChosenBits) (program : Program) (old new : List Query) (few most : ℕ) → few ≤ most → Queries chosen program old new few
    → Queries chosen program old new most
queries_wider chosen program old new few most low queries = record {
  kept = queries.kept;
  of = queries.of;
  only = queries.only;
  count = omega (arith, queries.count, low);
}

-- nothing was put
pub none_put : (chosen : ChosenBits) (program : Program) (queries : List Query) (most : ℕ) → Queries chosen program queries queries most
none_put chosen program queries most = record { kept = λ q query there. there; of = λ are. are; only = λ are. are; count = omega arith }
