-- Queries that are put behind others.
use Rattle.std.proofs.Common.{◌≡◌, ◌⊎◌, ◌∙◌, ℕ, zero, suc, ◌+◌, ◌<◌, ◌≤◌, Bool, true, false, if◌then◌else◌, List, [], ◌∷◌, ◌++◌, map, Some, length}
use Rattle.std.proofs.Common.{nat_eq, slice_get, inl, inr, refl, sym, ap, subst, arith, length-append}
use Rattle.std.specs.List.{list_any}
use Rattle.std.proofs.lemmas.Bool.{cases_lt, or_cases}
use Rattle.flow_graph.specs.Points.{kind_at, point_count}
use Rattle.flow_graph.specs.declared.analysis.Analysis.{Analysis}
use Rattle.flow_graph.specs.declared.analysis.Analysis.TheVariants.{Reach}
use Rattle.tac_program.specs.Programs.{Program}
use Rattle.tac_program.specs.Sound.{IsSound}
use Rattle.tac_program.specs.declared.program.StmtKind.{StmtKind}
use Rattle.flow_queries.specs.Queries.{IsQueryOf}
use Rattle.flow_queries.specs.declared.query.Query.{Query}
use Rattle.report_answers.specs.code.Querying.{Queries, QueriesReads, PutsPoint}
use Rattle.report_answers.specs.code.Busy.{ArePoints}
use Rattle.report_answers.specs.code.Operands.{AreRead}
use Rattle.report_answers.specs.code.Reported.{AreQueried, AreQueriedAt}
use Rattle.report_answers.specs.code.Answered.{query_for}
use Rattle.report_answers.specs.code.Chosen.{IsWanted, blank_query, wanted_query, wants}
use Rattle.report_answers.specs.declared.chosen_bits.ChosenBits.{ChosenBits}
use Rattle.report_answers.specs.declared.report_queries.PointQueries.{PointQueries}
use Rattle.report_answers.proofs.queries.Statements.{same_read, variables_are_there, variables_have_dummies}

pub get_before : (old more : List Query) (q : ℕ) (query : Query) → slice_get old q ≡ Some query → slice_get (old ++ more) q ≡ Some query
get_before [] more q query is = absurd (cc is)
get_before (one ∷ old) more zero query is = is
get_before (one ∷ old) more (suc q) query is = get_before old more q query is

get_last : (old : List Query) (query : Query) → slice_get (old ++ query ∷ []) (length old) ≡ Some query
get_last [] query = refl
get_last (one ∷ old) query = get_last old query

get_of_more : (old : List Query) (query : Query) (q : ℕ) (one : Query) → slice_get (old ++ query ∷ []) q ≡ Some one → (one ≡ query) ⊎ (slice_get old q ≡ Some one)
get_of_more [] query zero one is = inl (sym (cc is))
get_of_more [] query (suc q) one is = absurd (cc is)
get_of_more (first ∷ old) query zero one is = inr is
get_of_more (first ∷ old) query (suc q) one is = get_of_more old query q one is

test_before : (old more : List ℕ) (i test : ℕ) → slice_get old i ≡ Some test → slice_get (old ++ more) i ≡ Some test
test_before [] more i test is = absurd (cc is)
test_before (one ∷ old) more zero test is = is
test_before (one ∷ old) more (suc i) test is = test_before old more i test is

test_last : (old : List ℕ) (test : ℕ) → slice_get (old ++ test ∷ []) (length old) ≡ Some test
test_last [] test = refl
test_last (one ∷ old) test = test_last old test

test_of_more : (old : List ℕ) (test i one : ℕ) → slice_get (old ++ test ∷ []) i ≡ Some one → (one ≡ test) ⊎ (slice_get old i ≡ Some one)
test_of_more [] test zero one is = inl (sym (cc is))
test_of_more [] test (suc i) one is = absurd (cc is)
test_of_more (first ∷ old) test zero one is = inr is
test_of_more (first ∷ old) test (suc i) one is = test_of_more old test i one is

-- the last of a list, or one before it
place_before : (places : List PointQueries) (here : PointQueries) (p : ℕ) (at : PointQueries) → slice_get (places ++ here ∷ []) p ≡ Some at
    → ((p ≡ length places) × (at ≡ here)) ⊎ (slice_get places p ≡ Some at)
place_before [] here zero at is = inl (refl, sym (cc is))
place_before [] here (suc p) at is = absurd (cc is)
place_before (first ∷ places) here zero at is = inr is
place_before (first ∷ places) here (suc p) at is = elim (place_before places here p at is) [
  | inl last ↦ inl (ap (λ n. suc n) last.0, last.1)
  | inr before ↦ inr before
]

-- a query stands where it was put
pub put_there : (old new : List Query) (query : Query) → new ≡ old ++ query ∷ [] → slice_get new (length old) ≡ Some query
put_there old new query is = ap (λ queries. slice_get queries (length old)) is ∙ get_last old query

-- a query for a bit, or for none, is of the program if that for the bit is
pub wanted_is_query : (chosen : ChosenBits) (program : Program) (analysis : Analysis) (point bit : ℕ) → IsQueryOf program (query_for analysis point bit)
    → IsQueryOf program (wanted_query chosen analysis point bit)
wanted_is_query chosen program analysis point bit of = by_choice (wants chosen analysis bit)
  where
    by_choice : (b : Bool) → IsQueryOf program (if b then query_for analysis point bit else blank_query analysis point)
    by_choice true = of
    by_choice false = record { point = of.point; word = omega (arith, of.word) }

-- and asks for nothing else than what is wanted
pub wanted_is_wanted : (chosen : ChosenBits) (analysis : Analysis) (point bit : ℕ) → IsWanted chosen (wanted_query chosen analysis point bit)
wanted_is_wanted chosen analysis point bit = by_choice (wants chosen analysis bit) refl
  where
    by_choice : (b : Bool) → wants chosen analysis bit ≡ b
        → IsWanted chosen (if b then query_for analysis point bit else blank_query analysis point)
    by_choice true on = inr on
    by_choice false off = inl refl

module _ (chosen : ChosenBits) (program : Program) where
  -- one query more
  pub queries_one : (old new : List Query) (query : Query) (most : ℕ) → new ≡ old ++ query ∷ [] → IsQueryOf program query → IsWanted chosen query
      → 1 ≤ most → Queries chosen program old new most
  queries_one old new query most is of wanted room = subst (λ (queries : List Query). Queries chosen program old queries most) (sym is) (record {
    kept = λ q one there. get_before old (query ∷ []) q one there;
    of = λ are q one there. elim (get_of_more old query q one there) [
      | inl same ↦ subst (IsQueryOf program) (sym same) of
      | inr before ↦ are q one before
    ];
    only = λ are q one there. elim (get_of_more old query q one there) [
      | inl same ↦ subst (IsWanted chosen) (sym same) wanted
      | inr before ↦ are q one before
    ];
    count = omega (arith, length-append old (query ∷ []), room);
  })

  pub queries_then : (old mid new : List Query) (first second most : ℕ) → Queries chosen program old mid first → Queries chosen program mid new second → first + second ≤ most
      → Queries chosen program old new most
  queries_then old mid new first second most before after room = record {
    kept = λ q query there. after.kept q query (before.kept q query there);
    of = λ are. after.of (before.of are);
    only = λ are. after.only (before.only are);
    count = omega (arith, before.count, after.count, room);
  }

  pub reads_still : (old new : List Query) (place point : ℕ) (kind : StmtKind)
      → ((q : ℕ) (query : Query) → slice_get old q ≡ Some query → slice_get new q ≡ Some query) → QueriesReads chosen old place point kind
      → QueriesReads chosen new place point kind
  reads_still old new place point kind kept queried = record {
    each = λ variables are i variable at. kept (place + i) (wanted_query chosen Reach point variable) (queried.each variables are i variable at);
    all = λ variable reading. let found = queried.all variable reading in (found.0, kept found.0 (wanted_query chosen Reach point variable) found.1);
  }

  -- what was asked at a statement stays asked
  pub queried_still : (old new : List Query) (before after : List ℕ) (here : PointQueries) (point : ℕ) (kind : StmtKind)
      → ((q : ℕ) (query : Query) → slice_get old q ≡ Some query → slice_get new q ≡ Some query)
      → ((i test : ℕ) → slice_get before i ≡ Some test → slice_get after i ≡ Some test)
      → AreQueriedAt chosen program old before here point kind → AreQueriedAt chosen program new after here point kind
  queried_still old new before after here point kind kept still queried = record {
    reads = reads_still old new here.reads point kind kept queried.reads;
    evaluated = λ bit is. kept here.evaluated _ (queried.evaluated bit is);
    assigned = λ variable is. kept here.assigned _ (queried.assigned variable is);
    test = λ test. still here.test point (queried.test test);
  }

  -- and one statement more is
  pub queried_more : (old new : List Query) (before after : List ℕ) (places more : List PointQueries) (here : PointQueries) (point most : ℕ)
      → more ≡ places ++ here ∷ [] → length places ≡ point → Queries chosen program old new most
      → ((i test : ℕ) → slice_get before i ≡ Some test → slice_get after i ≡ Some test)
      → ((kind : StmtKind) → kind_at program point ≡ Some kind → AreQueriedAt chosen program new after here point kind)
      → AreQueried chosen program old before places → AreQueried chosen program new after more
  queried_more old new before after places more here point most is count queries still queried queried_before p at kind there stands_there =
      let there_ : slice_get (places ++ here ∷ []) p ≡ Some at = ap (λ ps. slice_get ps p) (sym is) ∙ there in
      elim (place_before places here p at there_) [
        | inl last ↦ (
            let same : p ≡ point = last.0 ∙ count in
            subst (λ (q : ℕ). kind_at program q ≡ Some kind → AreQueriedAt chosen program new after at q kind) (sym same)
            (λ stood. subst (λ (a : PointQueries). AreQueriedAt chosen program new after a point kind) (sym last.1) (queried kind stood)) stands_there)
        | inr earlier ↦ queried_still old new before after at p kind queries.kept still (queried_before p at kind earlier stands_there)
      ]

-- the queries of a round, one more
pub one_round_more : (first number : ℕ) (one_of : ℕ → Query) (old new : List Query) (query : Query) → new ≡ old ++ query ∷ [] → query ≡ one_of number
    → length old ≡ first + number → ((n : ℕ) → n < number → slice_get old (first + n) ≡ Some (one_of n))
    → (n : ℕ) → n < number + 1 → slice_get new (first + n) ≡ Some (one_of n)
one_round_more first number one_of old new query is of count before n below = elim (cases_lt n number) [
  | inl low ↦ ap (λ queries. slice_get queries (first + n)) is ∙ get_before old (query ∷ []) (first + n) (one_of n) (before n low)
  | inr high ↦ (
      let same : number ≡ n = omega (arith, below, high) in
      let place : first + n ≡ length old = omega (arith, count, same) in
      ap (slice_get new) place ∙ put_there old new query is ∙ ap (λ a. Some a) (of ∙ ap one_of same))
]

-- the queries for variables, put in their order
in_order : (query_of : ℕ → Query) (variables : List ℕ) (i variable : ℕ) → slice_get variables i ≡ Some variable
    → slice_get (map query_of variables) i ≡ Some (query_of variable)
in_order query_of [] i variable is = absurd (cc is)
in_order query_of (x ∷ variables) zero variable is = let same : x ≡ variable = cc is in ap (λ v. Some (query_of v)) same
in_order query_of (x ∷ variables) (suc i) variable is = in_order query_of variables i variable is

get_behind : (old more : List Query) (i : ℕ) → slice_get (old ++ more) (length old + i) ≡ slice_get more i
get_behind [] more i = let first : 0 + i ≡ i = omega arith in ap (slice_get more) first
get_behind (one ∷ old) more i =
    let later : suc (length old) + i ≡ suc (length old + i) = omega arith in
    ap (slice_get (one ∷ old ++ more)) later ∙ get_behind old more i

place_of : (variable : ℕ) (variables : List ℕ) → list_any (nat_eq variable) variables ≡ true → (i : ℕ) × (slice_get variables i ≡ Some variable)
place_of variable [] is = absurd (cc is)
place_of variable (x ∷ variables) is = elim (or_cases (nat_eq variable x) (list_any (nat_eq variable) variables) is) [
  | inl same ↦ (let at : x ≡ variable = grind (arith, same) in (0, ap (λ v. Some v) at))
  | inr later ↦ (let rest = place_of variable variables later in (suc rest.0, rest.1))
]

module _ (chosen : ChosenBits) (program : Program) (point : ℕ) (kind : StmtKind) (sound : IsSound program) (below : point < point_count program)
    (at : kind_at program point ≡ Some kind) where
  -- the queries for the variables that the statement reads stand behind the others
  pub reads_queried : (old new : List Query) (variables : List ℕ) → AreRead kind variables → new ≡ old ++ map (wanted_query chosen Reach point) variables
      → QueriesReads chosen new (length old) point kind
  reads_queried old new variables are is = record {
    each = λ others are_others i variable there. queried i variable
        (subst (λ vs. slice_get vs i ≡ Some variable) (same_read program point kind others variables sound below at are_others are) there);
    all = λ variable reading. let found = place_of variable variables (are.read variable ∙ reading) in
        (length old + found.0, queried found.0 variable found.1);
  }
    where
      queried : (i variable : ℕ) → slice_get variables i ≡ Some variable → slice_get new (length old + i) ≡ Some (wanted_query chosen Reach point variable)
      queried i variable there =
          ap (λ queries. slice_get queries (length old + i)) is ∙ get_behind old (map (wanted_query chosen Reach point) variables) i
          ∙ in_order (wanted_query chosen Reach point) variables i variable there

  -- the query for a variable that it reads is of the program
  pub read_is_query : (variables : List ℕ) → AreRead kind variables → (variable : ℕ) → list_any (nat_eq variable) variables ≡ true
      → IsQueryOf program (wanted_query chosen Reach point variable)
  read_is_query variables are variable among = wanted_is_query chosen program Reach point variable (record {
    point = below;
    word = omega (arith, variables_are_there program point kind variables sound below at are variable among, variables_have_dummies program);
  })

-- the queries for one variable, and for two
pub first_read : (chosen : ChosenBits) (queries : List Query) (place point variable : ℕ) (kind : StmtKind) (others : List ℕ) → QueriesReads chosen queries place point kind
    → AreRead kind (variable ∷ others)
    → slice_get queries place ≡ Some (wanted_query chosen Reach point variable)
first_read chosen queries place point variable kind others queried are =
    let here : place + 0 ≡ place = omega arith in
    subst (λ (q : ℕ). slice_get queries q ≡ Some (wanted_query chosen Reach point variable)) here (queried.each (variable ∷ others) are 0 variable refl)

pub second_read : (chosen : ChosenBits) (queries : List Query) (place point first second : ℕ) (kind : StmtKind) → QueriesReads chosen queries place point kind
    → AreRead kind (first ∷ second ∷ [])
    → slice_get queries (place + 1) ≡ Some (wanted_query chosen Reach point second)
second_read chosen queries place point first second kind queried are = queried.each (first ∷ second ∷ []) are 1 second refl

-- tests stay where they were put
pub tests_still : (old new : List ℕ) (point : ℕ) → PutsPoint old new point → (i test : ℕ) → slice_get old i ≡ Some test → slice_get new i ≡ Some test
tests_still old new point (inl same) i test there = ap (λ (tests : List ℕ). slice_get tests i) same ∙ there
tests_still old new point (inr more) i test there =
    ap (λ (tests : List ℕ). slice_get tests i) more ∙ test_before old (point ∷ []) i test there

-- and each is the new one or one of the old
pub points_more : (program : Program) (old new : List ℕ) (point : ℕ) → point < point_count program → PutsPoint old new point → ArePoints program old
    → ArePoints program new
points_more program old new point below (inl same) are i test there =
    are i test (ap (λ (tests : List ℕ). slice_get tests i) (sym same) ∙ there)
points_more program old new point below (inr more) are i test there =
    elim (test_of_more old point i test (ap (λ (tests : List ℕ). slice_get tests i) (sym more) ∙ there)) [
      | inl is ↦ subst (λ (p : ℕ). p < point_count program) (sym is) below
      | inr before ↦ are i test before
    ]

pub tests_count : (old new : List ℕ) (point : ℕ) → PutsPoint old new point → length new ≤ length old + 1
tests_count old new point (inl same) = let count : length new ≡ length old = ap length same in omega (arith, count)
tests_count old new point (inr more) =
    let count : length new ≡ length old + 1 = ap length more ∙ length-append old (point ∷ []) in omega (arith, count)

pub test_put : (old new : List ℕ) (point : ℕ) → new ≡ old ++ point ∷ [] → slice_get new (length old) ≡ Some point
test_put old new point is = ap (λ (tests : List ℕ). slice_get tests (length old)) is ∙ test_last old point
