-- The words with a bit of tests' sets of very busy expressions.
use Rattle.std.specs.Prelude.{◌≡◌, ℕ, zero, true, false, suc, ◌+◌, ◌-◌, ◌*◌, ◌^◌, ◌<◌, ◌≤◌, if◌then◌else◌, IfSome, List, Some, length, nat_eq, slice_get}
use Rattle.busy_bounds.specs.BusyBounds.{HasAllBusy, NoneVeryBusy}
use Rattle.std.specs.Prelude.{slice_index, slice_index_or}
use Rattle.flow_graph.specs.Analyses.{IsInTable}
use Rattle.flow_graph.specs.Points.{point_count}
use Rattle.flow_graph.specs.Universes.{bits}
use Rattle.flow_graph.specs.declared.analysis.Analysis.TheVariants.{Busy}
use Rattle.flow_queries.specs.Queries.{IsWordAt}
use Rattle.flow_queries.specs.declared.query.Query.{Query}
use Rattle.report_answers.specs.code.Chosen.{wants, wants_word}
use Rattle.report_answers.specs.declared.chosen_bits.ChosenBits.{ChosenBits}
use Rattle.report_answers.specs.declared.busy_rounds.BusyRounds.{BusyRounds}
use Rattle.report_answers.specs.declared.busy_rounds.RoundWords.{RoundWords}
use Rattle.report_answers.specs.declared.busy_words.BusyWord.{BusyWord}
use Rattle.report_answers.specs.declared.busy_words.BusyWords.{BusyWords}
use Rattle.tac_program.specs.Programs.{Program}

-- the query for a word of a test's set
abbrev pub busy_query : ℕ → ℕ → Query
busy_query point word = record { analysis = Busy; point = point; word = word; bits = 2 ^ 64 - 1 }

-- The expression is wanted, and very busy at the point.
abbrev pub IsBusy : ChosenBits → Program → ℕ → ℕ → Type 0
IsBusy chosen program point bit = (wants chosen Busy bit ≡ true) × (bit < bits program Busy) × IsInTable program Busy point bit

-- None of the expressions from a word on and before another is wanted and very busy at the point.
abbrev pub NoneBusy : ChosenBits → Program → ℕ → ℕ → ℕ → Type 0
NoneBusy chosen program point from until = (bit : ℕ) → 64 * from ≤ bit → bit < 64 * until → ¬ (IsBusy chosen program point bit)

-- The list that begins with the word of a number, counted from 1, has those of the point's words from one on that are wanted and have a bit: each
-- names the next one, and 0 is its end.
pub data AreBusy (chosen : ChosenBits) (program : Program) (words : List BusyWord) (point : ℕ) : ℕ → ℕ → Type 0 where
  ended : (from : ℕ) → ((bit : ℕ) → 64 * from ≤ bit → ¬ (IsBusy chosen program point bit)) → AreBusy chosen program words point from 0
  linked : (from place : ℕ) (busy : BusyWord) → slice_get words place ≡ Some busy → busy.next ≤ place → from ≤ busy.word
      → 64 * busy.word < bits program Busy → wants_word chosen Busy busy.word ≡ true → NoneBusy chosen program point from busy.word
      → IsWordAt program (busy_query point busy.word) busy.mask
      → AreBusy chosen program words point (suc busy.word) busy.next
      → AreBusy chosen program words point from (suc place)

-- lists of words, and the number of the first of each
pub record BusyLists : Type 0 where
  pub firsts : List ℕ
  pub words : List BusyWord

-- Of each of these points the list of its number has the words from one on that are wanted and have a bit.
abbrev pub TellBusy : ChosenBits → Program → List ℕ → BusyLists → ℕ → Type 0
TellBusy chosen program points lists from =
    (i point : ℕ) → slice_get points i ≡ Some point → AreBusy chosen program lists.words point from (slice_index lists.firsts i)

-- the word that is read where there is none
abbrev pub no_word : BusyWord
no_word = record { word = 0; next = 0; mask = 0 }

-- the word of a number in a list that begins there and has at most so many words, or 0
abbrev pub busy_mask : List BusyWord → ℕ → ℕ → ℕ → ℕ
busy_mask words zero number word = 0
busy_mask words (suc most) zero word = 0
busy_mask words (suc most) (suc place) word =
    let busy = slice_index_or words place no_word in if nat_eq busy.word word then busy.mask else busy_mask words most busy.next word

-- The query asks for all expressions of its word that are very busy at the point.
pub record AsksBusy (program : Program) (point : ℕ) (query : Query) : Type 0 where
  pub goes : query.analysis ≡ Busy
  pub at : query.point ≡ point
  pub all : HasAllBusy program point query.word query.bits

-- From one place up to another stand queries for a point's words from one on and before another, the last one first. In no word between is an
-- expression very busy.
pub data AreAsked (program : Program) (queries : List Query) (point from : ℕ) : ℕ → ℕ → ℕ → Type 0 where
  asked_all : (until q : ℕ) → NoneVeryBusy program point from until → AreAsked program queries point from until q q
  asks : (until q r : ℕ) (query : Query) → slice_get queries q ≡ Some query → AsksBusy program point query → from ≤ query.word → query.word < until
      → NoneVeryBusy program point (query.word + 1) until → AreAsked program queries point from query.word (q + 1) r
      → AreAsked program queries point from until q r

-- But for one, each list is as it was.
pub record Keeps (old new : BusyLists) (one : ℕ) : Type 0 where
  pub count : length new.firsts ≡ length old.firsts
  pub firsts : (i : ℕ) → ¬ (i ≡ one) → slice_index new.firsts i ≡ slice_index old.firsts i
  pub words : (place : ℕ) (busy : BusyWord) → slice_get old.words place ≡ Some busy → slice_get new.words place ≡ Some busy

-- lists of words as a value
abbrev pub busy_lists : BusyWords → BusyLists
busy_lists busy = record { firsts = busy.firsts.items; words = busy.words.items }

-- Each is a point of the program.
abbrev pub ArePoints : Program → List ℕ → Type 0
ArePoints program points = (i point : ℕ) → slice_get points i ≡ Some point → point < point_count program

-- The words from one on are told, and before it those from the first on are wanted; a round asks for so many of each of the points' sets.
pub record AreRounds (chosen : ChosenBits) (program : Program) (points : List ℕ) (rounds : BusyRounds) : Type 0 where
  pub same_bits : rounds.chosen ≡ chosen
  pub same : rounds.tests.items ≡ points
  pub are : ArePoints program points
  pub bounded : IfSome rounds.bounds (λ bounds. bounds ≡ program)
  pub some : 0 < rounds.least
  pub wide : 0 < rounds.width
  pub shared : rounds.share ≤ 2 ^ 25
  pub few : length points * rounds.least ≤ 2 ^ 25
  pub within : 64 * rounds.until < bits program Busy + 64
  pub ordered : rounds.first ≤ rounds.until
  pub wanted : (word : ℕ) → rounds.first ≤ word → word < rounds.until → wants_word chosen Busy word ≡ true
  pub unwanted : (word : ℕ) → word < rounds.first → wants_word chosen Busy word ≡ false
  pub count : length rounds.busy.firsts.items ≡ length points
  pub answered : TellBusy chosen program points (busy_lists rounds.busy) rounds.until

-- The queries of a round: for each test those of the words from one on that are not told yet, at places that are kept.
pub record AreRoundQueries (program : Program) (points : List ℕ) (from until : ℕ) (starts : List ℕ) (queries : List Query) : Type 0 where
  pub count : length starts ≡ length points + 1
  pub each : (i point : ℕ) → slice_get points i ≡ Some point
      → AreAsked program queries point from until (slice_index starts i) (slice_index starts (i + 1))

pub record IsRound (program : Program) (rounds : BusyRounds) (queries : List Query) : Type 0 where
  pub past : rounds.first ≤ rounds.from
  pub before : rounds.from ≤ rounds.until
  pub less : rounds.first < rounds.until → rounds.from < rounds.until
  pub queried : AreRoundQueries program rounds.tests.items rounds.from rounds.until rounds.starts.items queries

-- But for the round that is asked, the rounds are as they were.
pub record IsSameBut (old new : BusyRounds) : Type 0 where
  pub chosen : new.chosen ≡ old.chosen
  pub tests : new.tests.items ≡ old.tests.items
  pub until : new.until ≡ old.until
  pub first : new.first ≡ old.first
  pub least : new.least ≡ old.least
  pub share : new.share ≡ old.share

-- The words of a round's sets are words of the program that are wanted, and the bounds are the program's.
pub record AreWordsOf (program : Program) (words : RoundWords) : Type 0 where
  pub bounded : IfSome words.bounds.now (λ bounds. bounds ≡ program)
  pub ordered : words.first ≤ words.end
  pub within : 64 * words.end < bits program Busy + 64
  pub wanted : (word : ℕ) → words.first ≤ word → word < words.end → wants_word words.chosen Busy word ≡ true
