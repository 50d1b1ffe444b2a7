-- Rounds of queries for words of tests' sets.
use Rattle.std.proofs.Common.{◌≡◌, ◌∙◌, ℕ, zero, suc, ◌<◌, ◌≤◌, List, [], ◌∷◌, ◌++◌, None, Some, length, slice_get, slice_index, slice_index_or}
use Rattle.std.proofs.Common.{slice_set, take, refl, sym, ap, subst, arith}
use Rattle.std.proofs.lemmas.List.{get_or-set_other, get_or-take, length-take-le}
use Rattle.std.proofs.lemmas.Option.{get_or_from_slice_get, slice_get-get_or, slice_get_within}
use Rattle.flow_queries.specs.Queries.{AreQueriesOf}
use Rattle.flow_queries.specs.declared.query.Query.{Query}
use Rattle.report_answers.specs.code.Busy.{AreBusy, BusyLists, Keeps}
use Rattle.report_answers.specs.code.Chosen.{AsksOnly}
use Rattle.report_answers.specs.declared.busy_words.BusyWord.{BusyWord}
use Rattle.report_answers.specs.declared.chosen_bits.ChosenBits.{ChosenBits}
use Rattle.report_answers.proofs.busy.Lists.{get_before, still}
use Rattle.tac_program.specs.Programs.{Program}

pub keeps_all : (lists : BusyLists) (one : ℕ) → Keeps lists lists one
keeps_all lists one = record { count = refl; firsts = λ i other. refl; words = λ place busy is. is }

pub keeps_then : (old mid new : BusyLists) (one : ℕ) → Keeps old mid one → Keeps mid new one → Keeps old new one
keeps_then old mid new one before after = record {
  count = after.count ∙ before.count;
  firsts = λ i other. after.firsts i other ∙ before.firsts i other;
  words = λ place busy is. after.words place busy (before.words place busy is);
}

-- a word more, which is the first of one list
pub keeps_put : (firsts : List ℕ) (words : List BusyWord) (one number : ℕ) (busy : BusyWord) (new : BusyLists) → length new.firsts ≡ length firsts
    → new.firsts ≡ slice_set firsts one number → new.words ≡ words ++ busy ∷ []
    → Keeps (record { firsts = firsts; words = words }) new one
keeps_put firsts words one number busy new count first more = record {
  count = count;
  firsts = λ i other. ap (λ (all : List ℕ). slice_index all i) first ∙ get_or-set_other firsts one i number 0 other;
  words = λ place old is. ap (λ (all : List BusyWord). slice_get all place) more ∙ get_before words (busy ∷ []) place old is;
}

-- what the other lists tell stays told
pub others_still : (chosen : ChosenBits) (program : Program) (old new : BusyLists) (one i point from : ℕ) → Keeps old new one → ¬ (i ≡ one)
    → AreBusy chosen program old.words point from (slice_index old.firsts i) → AreBusy chosen program new.words point from (slice_index new.firsts i)
others_still chosen program old new one i point from keeps other answered =
    subst (λ (n : ℕ). AreBusy chosen program new.words point from n) (sym (keeps.firsts i other))
    (still chosen program point old.words new.words keeps.words from (slice_index old.firsts i) answered)

-- a query that stands among the first ones
pub take_still : (queries : List Query) (count q : ℕ) (query : Query) → count ≤ length queries → q < count → slice_get queries q ≡ Some query
    → slice_get (take count queries) q ≡ Some query
take_still queries count q query within inside there =
    slice_get-get_or (take count queries) q query (omega (arith, inside, length-take-le count queries within))
    ∙ ap Some (get_or-take count queries q query inside ∙ get_or_from_slice_get queries q query query there)

-- the first queries ask for nothing else than all
taken_there : (queries : List Query) (count q : ℕ) (query : Query) → slice_get (take count queries) q ≡ Some query → slice_get queries q ≡ Some query
taken_there [] zero q query there = there
taken_there [] (suc count) q query there = there
taken_there (one ∷ queries) zero q query there = absurd (cc there)
taken_there (one ∷ queries) (suc count) zero query there = there
taken_there (one ∷ queries) (suc count) (suc q) query there = taken_there queries count q query there

pub only_first : (chosen : ChosenBits) (queries : List Query) (count : ℕ) → AsksOnly chosen queries → AsksOnly chosen (take count queries)
only_first chosen queries count only q query there = only q query (taken_there queries count q query there)

-- where all queries are kept there are no fewer
pub kept_longer : (old new : List Query) → ((q : ℕ) (query : Query) → slice_get old q ≡ Some query → slice_get new q ≡ Some query) → length old ≤ length new
kept_longer [] new kept = omega arith
kept_longer (one ∷ old) new kept =
    let last = slice_get-get_or (one ∷ old) (length old) one (omega arith) in
    let inside = slice_get_within new (length old) (slice_index_or (one ∷ old) (length old) one)
    (kept (length old) (slice_index_or (one ∷ old) (length old) one) last) in
    omega (arith, inside)

-- no query is of any program
pub none_queried : (program : Program) (queries : List Query) → queries ≡ [] → AreQueriesOf program queries
none_queried program queries none q query there =
    let both : None ≡ Some query = ap (λ (all : List Query). slice_get all q) (sym none) ∙ there in
    absurd (cc both)

-- nor asks for what is not wanted
pub none_asked : (chosen : ChosenBits) (queries : List Query) → queries ≡ [] → AsksOnly chosen queries
none_asked chosen queries none q query there =
    let both : None ≡ Some query = ap (λ (all : List Query). slice_get all q) (sym none) ∙ there in
    absurd (cc both)
