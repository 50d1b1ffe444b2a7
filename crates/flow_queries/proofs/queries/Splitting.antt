-- Bits that are settled.
use Rattle.std.proofs.Common.{◌≡◌, ◌∙◌, ◌⊎◌, ℕ, ◌+◌, ◌*◌, ◌/◌, ◌%◌, ◌<◌, Bool, true, false, ◌&&◌, ◌||◌, not, nat_eq, List, Some, length, slice_get, slice_index, slice_index_or}
use Rattle.std.specs.Prelude.{bit_or}
use Rattle.std.proofs.Common.{inl, inr, refl, sym, ap, ap₂, subst, arith, true≢false, ne_eqb, eq-eqb, slice_set}
use native.Mathlib.Decide.{ℕ_discrete}
use mathlib.Core.Logic.{dite}
use Rattle.std.proofs.lemmas.Bool.{and_parts, and_cases, eqb-true, not_from_true, or_cases, or_left, or_right}
use Rattle.std.proofs.lemmas.Grind.{get_or-set_at}
use Rattle.std.proofs.lemmas.List.{get_or-set_other, length-set}
use Rattle.std.proofs.lemmas.Option.{slice_get-get_or, slice_get_within}
use Rattle.bit_rows.proofs.words.WordBits.{has_bit-or, has_bit-zero}
use Rattle.bit_rows.specs.Words.{has_bit}
use Rattle.flow_bounds.specs.Asked.{IsAskOf, IsTrueOf}
use Rattle.flow_bounds.specs.declared.asked.Ask.{Ask}
use Rattle.flow_bounds.specs.declared.asked.Told.TheVariants.{Has, Lacks}
use Rattle.flow_graph.specs.declared.analysis.Analysis.{Analysis}
use Rattle.flow_graph.specs.Universes.{bits}
use Rattle.flow_queries.specs.Queries.{AreQueriesOf}
use Rattle.flow_queries.specs.code.Boards.{Arranges, Queried, no_query}
use Rattle.flow_queries.specs.code.Cuts.{AreAlike}
use Rattle.flow_queries.specs.code.Directions.{selection_of}
use Rattle.flow_queries.specs.code.Packing.{HasColumns}
use Rattle.flow_queries.specs.code.Solving.{IsAskedWord}
use Rattle.flow_queries.specs.code.Splits.{AreSplit, AsksFor, IsKnownBit, IsSetBit, IsSplit}
use Rattle.flow_queries.specs.declared.query.Query.{Query}
use Rattle.flow_team.specs.Sets.{IsInColumns}
use Rattle.tac_program.specs.Programs.{Program}

-- what differs in the bits that are asked alone has the same sets
pub set_bit_same : (program : Program) (a b : Query) (k : ℕ) → a.analysis ≡ b.analysis → a.point ≡ b.point → a.word ≡ b.word → IsSetBit program a k
    → IsSetBit program b k
set_bit_same program a b k analysis point word is =
    subst (λ (n : ℕ). IsInColumns (selection_of program b.analysis) b.point (64 * n + k)) word
    (subst (λ (p : ℕ). IsInColumns (selection_of program b.analysis) p (64 * a.word + k)) point
    (subst (λ (x : Analysis). IsInColumns (selection_of program x) a.point (64 * a.word + k)) analysis is))

module _ (program : Program) (query rest new : Query) (found word place : ℕ) (has : Bool) (split : IsSplit program query rest found)
    (known : IsKnownBit program rest place has) (small : place < 64)
    (analysis : new.analysis ≡ rest.analysis) (point : new.point ≡ rest.point) (at : new.word ≡ rest.word)
    (fewer : (k : ℕ) → k < 64 → has_bit new.bits k ≡ (has_bit rest.bits k && not (nat_eq k place)))
    (more : (k : ℕ) → k < 64 → has_bit word k ≡ (has_bit found k || (nat_eq k place && has))) where
  asked_here : (k : ℕ) → k ≡ place → has_bit query.bits k ≡ true
  asked_here k same = ap (has_bit query.bits) same ∙ split.within place small known.asked

  set_here : (k : ℕ) → k ≡ place → has ≡ true → IsSetBit program query k
  set_here k same had =
      subst (IsSetBit program query) (sym same) (set_bit_same program rest query place split.analysis split.point split.word (known.had had))

  sound_from : (k : ℕ) → k < 64 → (has_bit found k ≡ true) ⊎ ((nat_eq k place && has) ≡ true)
      → (has_bit query.bits k ≡ true) × IsSetBit program query k
  sound_from k below (inl old) = split.sound k below old
  sound_from k below (inr here) =
      let parts = and_parts (nat_eq k place) has here in
      let same = eqb-true k place parts.0 in
      (asked_here k same, set_here k same parts.1)

  found_here : (k : ℕ) → k ≡ place → IsSetBit program query k → (b : Bool) → has ≡ b → (nat_eq k place && has) ≡ true
  found_here k same is true had = ap₂ ◌&&◌ (eq-eqb k place same) had
  found_here k same is false lacks =
      absurd (known.lacked lacks (set_bit_same program query rest place (sym split.analysis) (sym split.point) (sym split.word)
      (subst (IsSetBit program query) same is)))

  gone_before : (k : ℕ) → k < 64 → (k ≡ place → ⊥) → has_bit new.bits k ≡ false → has_bit rest.bits k ≡ false
  gone_before k below other gone = gone_of (and_cases (has_bit rest.bits k) (not (nat_eq k place)) (sym (fewer k below) ∙ gone))
    where
      gone_of : (has_bit rest.bits k ≡ false) ⊎ (not (nat_eq k place) ≡ false) → has_bit rest.bits k ≡ false
      gone_of (inl is) = is
      gone_of (inr is) = absurd (true≢false (sym (ap not (ne_eqb k place other)) ∙ is))

  -- one bit that is settled
  pub split_more : IsSplit program query new word
  split_more = record {
    analysis = analysis ∙ split.analysis;
    point = point ∙ split.point;
    word = at ∙ split.word;
    within = λ k below left. split.within k below (and_parts (has_bit rest.bits k) (not (nat_eq k place)) (sym (fewer k below) ∙ left)).0;
    sound = λ k below is. sound_from k below (or_cases (has_bit found k) (nat_eq k place && has) (sym (more k below) ∙ is));
    complete = λ k below gone asked is. more k below ∙ dite (ℕ_discrete k place)
        (λ same. or_right (has_bit found k) (nat_eq k place && has) (found_here k same is has refl))
        (λ other. or_left (has_bit found k) (nat_eq k place && has) (split.complete k below (gone_before k below other gone) asked is));
  }

-- of all queries
pub all_split_more : (program : Program) (queries left : List Query) (found : List ℕ) (number place word : ℕ) (rest new : Query) (has : Bool)
    → AreSplit program queries left found → number < length left → number < length found → slice_get left number ≡ Some rest
    → IsKnownBit program rest place has → place < 64
    → new.analysis ≡ rest.analysis → new.point ≡ rest.point → new.word ≡ rest.word
    → ((k : ℕ) → k < 64 → has_bit new.bits k ≡ (has_bit rest.bits k && not (nat_eq k place)))
    → ((k : ℕ) → k < 64 → has_bit word k ≡ (has_bit (slice_index found number) k || (nat_eq k place && has)))
    → AreSplit program queries (slice_set left number new) (slice_set found number word)
all_split_more program queries left found number place word rest new has are there inside is known small analysis point at fewer more = record {
  left_count = length-set left number new ∙ are.left_count;
  found_count = length-set found number word ∙ are.found_count;
  each = λ q query other asked left_is. dite (ℕ_discrete q number)
      (λ same.
      let here : slice_get queries number ≡ Some query = ap (slice_get queries) (sym same) ∙ asked in
      let was = are.each number query rest here is in
      let both : Some new ≡ Some other =
      sym (slice_get-get_or (slice_set left number new) q new (omega (arith, same, there, length-set left number new))
      ∙ ap Some (get_or-set_at left number q new new same there)) ∙ left_is in
      let equal : new ≡ other = cc both in
      subst (λ (a : Query). IsSplit program query a (slice_index (slice_set found number word) q)) equal
      (subst (λ (n : ℕ). IsSplit program query new n) (sym (get_or-set_at found number q word 0 same inside))
      (split_more program query rest new (slice_index found number) word place has was known small analysis point at fewer more)))
      (λ apart.
      let low : q < length left = omega (arith, slice_get_within queries q query asked, are.left_count) in
      let kept : slice_get left q ≡ Some other =
      slice_get-get_or left q other low ∙ ap Some (sym (get_or-set_other left number q new other apart))
      ∙ sym (slice_get-get_or (slice_set left number new) q other (omega (arith, low, length-set left number new))) ∙ left_is in
      subst (λ (n : ℕ). IsSplit program query other n) (sym (get_or-set_other found number q word 0 apart)) (are.each q query other asked kept));
}

-- what is left are queries of the program
pub left_are_queries : (program : Program) (queries left : List Query) (found : List ℕ) → AreSplit program queries left found
    → AreQueriesOf program queries → AreQueriesOf program left
left_are_queries program queries left found split of q rest is =
    let query = slice_index_or queries q no_query in
    let asked : slice_get queries q ≡ Some query =
    slice_get-get_or queries q no_query (omega (arith, slice_get_within left q rest is, split.left_count)) in
    let same = split.each q query rest asked is in
    let own = of q query asked in
    record {
      point = omega (arith, own.point, same.point);
      word =
          subst (λ (a : Analysis). 64 * rest.word < bits program a) (sym same.analysis)
          (subst (λ (n : ℕ). 64 * n < bits program query.analysis) (sym same.word) own.word);
    }

-- where nothing is settled all is left
pub none_split : (program : Program) (queries left : List Query) (found : List ℕ) → left ≡ queries → length found ≡ length queries
    → ((q : ℕ) → slice_index found q ≡ 0) → AreSplit program queries left found
none_split program queries left found same size zero = record {
  left_count = ap length same;
  found_count = size;
  each = λ q query rest asked is.
      let both : Some query ≡ Some rest = sym asked ∙ ap (λ (list : List Query). slice_get list q) (sym same) ∙ is in
      let equal : query ≡ rest = cc both in
      subst (λ (a : Query). IsSplit program query a (slice_index found q)) equal
      (subst (λ (n : ℕ). IsSplit program query query n) (sym (zero q)) (whole program query));
}
  where
    whole : (program : Program) (query : Query) → IsSplit program query query 0
    whole program query = record {
      analysis = refl;
      point = refl;
      word = refl;
      within = λ k below is. is;
      sound = λ k below is. absurd (true≢false (sym is ∙ has_bit-zero k));
      complete = λ k below gone asked is. absurd (true≢false (sym asked ∙ gone));
    }

module _ (program : Program) (query : Query) (analysis : Analysis) (ask : Ask) (asks : AsksFor query analysis ask) where
  place_of : ask.column ≡ 64 * query.word + ask.column % 64
  place_of = omega (arith, asks.word)

  -- what is told of a bit that a query asks for is known
  pub had_is_known : IsAskOf (selection_of program analysis) ask → IsTrueOf (selection_of program analysis) ask Has
      → IsKnownBit program query (ask.column % 64) true
  had_is_known of is = record {
    asked = asks.bit;
    had = λ same.
        let there : IsInColumns (selection_of program analysis) ask.point ask.column = (of.point, of.column, is) in
        subst (λ (x : Analysis). IsInColumns (selection_of program x) query.point (64 * query.word + ask.column % 64)) (sym asks.goes)
        (subst (λ (p : ℕ). IsInColumns (selection_of program analysis) p (64 * query.word + ask.column % 64)) (sym asks.point)
        (subst (λ (n : ℕ). IsInColumns (selection_of program analysis) ask.point n) place_of there));
    lacked = λ same. absurd (true≢false same);
  }

  pub lacked_is_known : IsTrueOf (selection_of program analysis) ask Lacks → IsKnownBit program query (ask.column % 64) false
  lacked_is_known is = record {
    asked = asks.bit;
    had = λ same. absurd (true≢false (sym same));
    lacked = λ same there.
        let here = subst (λ (x : Analysis). IsInColumns (selection_of program x) query.point (64 * query.word + ask.column % 64)) asks.goes there in
        let placed = subst (λ (p : ℕ). IsInColumns (selection_of program analysis) p (64 * query.word + ask.column % 64)) asks.point here in
        let told = subst (λ (n : ℕ). IsInColumns (selection_of program analysis) ask.point n) (sym place_of) placed in
        is told.2;
  }

-- what is left is of the query's analysis, and so of the first one's of its slice
pub left_goes : (queried : Queried) (found : List ℕ) → Arranges queried.queries queried.order queried.places
    → AreSplit queried.program queried.queries queried.left found → (from j : ℕ) (first rest : Query) → j < length queried.order
    → AreAlike queried.order from j → slice_get queried.order from ≡ Some first → slice_get queried.left (slice_index queried.places j) ≡ Some rest
    → rest.analysis ≡ first.analysis
left_goes queried found arranged split from j first rest there alike at is =
    let low : j < length queried.queries = omega (arith, there, arranged.count) in
    let place : ℕ = slice_index queried.places j in
    let query = slice_index_or queried.queries place no_query in
    let asked : slice_get queried.queries place ≡ Some query = slice_get-get_or queried.queries place no_query (arranged.within j low) in
    (split.each place query rest asked is).analysis ∙ sym (alike first query at (arranged.each j low ∙ asked))

-- what is left of a query, solved, and what was found make its word
pub joined_word : (program : Program) (query rest : Query) (found solved : ℕ) → IsSplit program query rest found → IsAskedWord program rest solved
    → IsAskedWord program query (bit_or found solved)
joined_word program query rest found solved split tells k small =
    ((λ is. from (or_cases (has_bit found k) (has_bit solved k) (sym (has_bit-or found solved k) ∙ is))), λ is. has_bit-or found solved k ∙ to is.0 is.1)
  where
    from : (has_bit found k ≡ true) ⊎ (has_bit solved k ≡ true) → (has_bit query.bits k ≡ true) × IsSetBit program query k
    from (inl is) = split.sound k small is
    from (inr is) =
        let told = (tells k small).0 is in
        (split.within k small told.0, set_bit_same program rest query k split.analysis split.point split.word told.1)

    to : has_bit query.bits k ≡ true → IsSetBit program query k → (has_bit found k || has_bit solved k) ≡ true
    to asked is = by_left (has_bit rest.bits k) refl
      where
        by_left : (b : Bool) → has_bit rest.bits k ≡ b → (has_bit found k || has_bit solved k) ≡ true
        by_left true left =
            or_right (has_bit found k) (has_bit solved k)
            ((tells k small).1 (left, set_bit_same program query rest k (sym split.analysis) (sym split.point) (sym split.word) is))
        by_left false gone = or_left (has_bit found k) (has_bit solved k) (split.complete k small gone asked is)
