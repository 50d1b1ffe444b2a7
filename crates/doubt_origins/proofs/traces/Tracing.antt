-- The search backwards from endless points, each point once, in the order in which they became known
use Rattle.std.proofs.Common.{◌≡◌, ◌⊎◌, inl, inr, ℕ, ◌+◌, ◌<◌, ◌≤◌, Bool, true, false, List, [], ◌∷◌, ◌++◌, length, get_or, drop, map}
use Rattle.std.proofs.Common.{Contains, Option, Some, None, MatchOption, is_none, is_some, unwrap_or, fold, filter, slice_set, if◌then◌else◌, refl, sym, ap, ◌∙◌, subst, arith}
use Rattle.std.proofs.Common.{append_assoc, append-nil, length-append}
use Rattle.std.specs.List.{range_with_len}
use Rattle.std.proofs.lemmas.Bool.{cases_lt}
use Rattle.std.proofs.lemmas.List.{drop-append-le, drop_all, drop_more, ext_get_or, get_or-map, get_or_past, length-map, map-set}
use Rattle.std.proofs.lemmas.List.FromFn.{get_or-map-range_with_len, length-map-range_with_len}
use Rattle.std.proofs.lemmas.Option.{same_Some}
use Rattle.std.proofs.lemmas.List.Elements.{Contains-append_cases, Contains-append_left, Contains-append_right}
use Rattle.tac_program.specs.Programs.{Program}
use Rattle.tac_program.specs.Sound.{IsSound}
use Rattle.flow_graph.specs.Analyses.{shape_of}
use Rattle.flow_graph.specs.Leading.{LeadsTo, TellLeading}
use Rattle.flow_graph.specs.Paths.{IsPath, HasBackwardPath, target_of}
use Rattle.flow_graph.specs.Points.{point_count}
use Rattle.flow_graph.specs.Runs.{IsDoubtful}
use Rattle.flow_graph.specs.code.Searching.{Search, search_of, sources_of, with_known}
use Rattle.flow_graph.specs.declared.edge.Edge.{Edge}
use Rattle.flow_graph.proofs.edges.LeadingLemmas.{Searches, remaining, search_begins, search_tells, step_taken}
use Rattle.flow_graph.proofs.edges.SourceLemmas.{HasEdge, sources_have_edges}
use Rattle.flow_graph.proofs.graphs.GraphLaws.{edges_join_points}
use Rattle.flow_graph.proofs.lists.Membership.{Contains-cons, Contains-first, Contains-later, Contains-one}
use Rattle.flow_reasons.specs.Doubts.{IsDoubtOrigin}
use Rattle.doubt_origins.specs.Origins.{AreOrigins, origins_in}
use Rattle.doubt_origins.specs.code.Tracing.{AddsOrigin, TellEndless, known_in, own_origin}

-- what is added to the work does not rest on what stands there
added : (known : List Bool) (xs : List ℕ)
    → (after : List Bool) × (more : List ℕ) × ((work : List ℕ) → fold with_known (search_of known work) xs ≡ search_of after (work ++ more))
added known [] = (known, [], λ work. ap (search_of known) (sym (append-nil work)))
added known (x ∷ xs) = by_test (get_or known x false) refl (added (slice_set known x true) xs)
  where
    by_test : (b : Bool) → get_or known x false ≡ b
        → (after : List Bool) × (more : List ℕ)
        × ((work : List ℕ) → fold with_known (search_of (slice_set known x true) work) xs ≡ search_of after (work ++ more))
        → (after : List Bool) × (more : List ℕ)
        × ((work : List ℕ) → fold with_known (search_of (slice_set known x true) (if b then work else work ++ x ∷ [])) xs
        ≡ search_of after (work ++ more))
    by_test true is rest = rest
    by_test false is (after, more, rest) = (after, x ∷ more, λ work. rest (work ++ x ∷ []) ∙ ap (search_of after) (append_assoc work (x ∷ []) more))

-- whether a point is looked at first or last is the same to what holds of a search
turned : (program : Program) (marked known : List Bool) (x : ℕ) (rest : List ℕ) → Searches program marked (search_of known (x ∷ rest))
    → Searches program marked (search_of known (rest ++ x ∷ []))
turned program marked known x rest searches = record {
  count = searches.count;
  inside = λ y at. searches.inside y (there y at);
  sound = searches.sound;
  found = λ y at. searches.found y (there y at);
  includes = searches.includes;
  closed = λ y z edge is. elim (searches.closed y z edge is) [ inl before ↦ inl before | inr at ↦ inr (back z at) ];
}
  where
    there : (y : ℕ) → Contains (rest ++ x ∷ []) y → Contains (x ∷ rest) y
    there y at =
        elim (Contains-append_cases rest (x ∷ []) y at) [
          | inl later ↦ Contains-later x rest y later
          | inr here ↦ subst (Contains (x ∷ rest)) (sym (Contains-one x y here)) (Contains-first x rest)
        ]

    back : (y : ℕ) → Contains (x ∷ rest) y → Contains (rest ++ x ∷ []) y
    back y at =
        elim (Contains-cons x rest y at) [
          | inl same ↦ Contains-append_right rest (x ∷ []) y (subst (Contains (x ∷ [])) (sym same) (Contains-first x []))
          | inr later ↦ Contains-append_left rest (x ∷ []) y later
        ]

-- What holds all along: what is known leads to endless points, of which one is told, and an edge to what is known comes from what is known,
-- unless its target is still to be looked at.
pub record Traces (program : Program) (endless : List Bool) (next : ℕ) (origins : List (Option ℕ)) (work : List ℕ) : Type 0 where
  pub passed : next ≤ length work
  pub searches : Searches program endless (search_of (known_in origins) (drop next work))
  pub traced : (x o : ℕ) → origins_in origins x ≡ Some o → IsDoubtOrigin program x o

-- doubt comes from there to the points before one, too
origin_back : (program : Program) (x y origin : ℕ) → HasEdge program x y → IsDoubtOrigin program y origin → IsDoubtOrigin program x origin
origin_back program x y origin (edge, at, from, to) is = record {
  below = is.below;
  path = edge ∷ is.path;
  leads = (at, from, subst (λ z. IsPath (shape_of program) z is.path origin) (sym to) is.leads);
  endless = is.endless;
}

-- one step
pub record StepsOn (program : Program) (endless : List Bool) (next : ℕ) (old : List (Option ℕ)) (before : List ℕ) (new : List (Option ℕ))
    (after : List ℕ) : Type 0 where
  pub traces : Traces program endless (next + 1) new after
  pub smaller : remaining (search_of (known_in new) (drop (next + 1) after)) < remaining (search_of (known_in old) (drop next before))

module _ (program : Program) (sound : IsSound program) (endless : List Bool) (next at : ℕ) (origins : List (Option ℕ)) (work : List ℕ)
    (traces : Traces program endless next origins work) (low : next < length work) (at_is : at ≡ get_or work next 0) where
  here : drop next work ≡ at ∷ drop (next + 1) work
  here = drop_more work next 0 low ∙ ap (λ x. x ∷ drop (next + 1) work) (sym at_is)

  waits : Contains (drop next work) at
  waits = subst (λ (l : List ℕ). Contains l at) (sym here) (Contains-first at (drop (next + 1) work))

  pub is_point : at < point_count program
  is_point = traces.searches.inside at waits

  pub is_origin : at < length origins
  is_origin = omega (arith, is_point, traces.searches.count, length-map origins is_some)

  -- the point that is looked at is known
  pub is_told : is_some (origins_in origins at) ≡ true
  is_told = sym (get_or-map is_some origins at None false is_origin) ∙ traces.searches.found at waits

  module _ (origin : ℕ) (told : origins_in origins at ≡ Some origin) (new : List (Option ℕ)) (after : List ℕ)
      (known : search_of (known_in new) after ≡ fold with_known (search_of (known_in origins) work) (sources_of program at))
      (adds : AddsOrigin (sources_of program at) origin origins new) where
    rest : List ℕ
    rest = drop (next + 1) work

    steps : (others : List Bool) × (more : List ℕ)
        × ((begun : List ℕ) → fold with_known (search_of (known_in origins) begun) (sources_of program at) ≡ search_of others (begun ++ more))
        → StepsOn program endless next origins work new after
    unfolding rest
    steps (others, more, all) =
        let known_is : known_in new ≡ others = ap (λ (s : Search). s.known) (known ∙ all work) in
        let work_is : after ≡ work ++ more = ap (λ (s : Search). s.work) (known ∙ all work) in
        let left : drop (next + 1) after ≡ drop (next + 1) work ++ more =
        ap (λ (w : List ℕ). drop (next + 1) w) work_is ∙ drop-append-le (next + 1) work more (omega (arith, low)) in
        let is : search_of (known_in new) (drop (next + 1) after)
        ≡ fold with_known (search_of (known_in origins) (drop (next + 1) work)) (sources_of program at) =
        (λ i. search_of (known_is i) (left i)) ∙ sym (all (drop (next + 1) work)) in
        let first : Searches program endless (search_of (known_in origins) (at ∷ drop (next + 1) work)) =
        subst (λ (w : List ℕ). Searches program endless (search_of (known_in origins) w)) here traces.searches in
        let taken = step_taken program endless (known_in origins) (drop (next + 1) work ++ at ∷ []) (drop (next + 1) work) at (sources_of program at)
        (search_of (known_in new) (drop (next + 1) after)) sound
        (turned program endless (known_in origins) at (drop (next + 1) work) first) refl refl is in
        record {
          traces = record {
            passed = omega (arith, low, ap length work_is, length-append work more);
            searches = taken.searches;
            traced = λ x o is_o. elim (adds.each x o is_o) [
              | inl before ↦ traces.traced x o before
              | inr (among, same) ↦ subst (IsDoubtOrigin program x) (sym same)
                  (origin_back program x at origin (sources_have_edges program sound x at among).1 (traces.traced at origin told))
            ];
          };
          smaller = omega (arith, taken.smaller, length-append (drop (next + 1) work) (at ∷ []), ap length here);
        }

    pub trace_more : StepsOn program endless next origins work new after
    trace_more = steps (added (known_in origins) (sources_of program at))

-- what is made at first: the endless points themselves
abbrev own_at : List Bool → ℕ → Option ℕ
own_at endless point = own_origin (get_or endless point false) point

abbrev owns : List Bool → List (Option ℕ)
owns endless = map (own_at endless) (range_with_len 0 (length endless))

own_known : (endless : List Bool) → known_in (owns endless) ≡ endless
own_known endless =
    ext_get_or false (known_in (owns endless)) endless (length-map (owns endless) is_some ∙ length-map-range_with_len (own_at endless) 0 (length endless))
    (λ i below. each i (omega (arith, below, length-map (owns endless) is_some, length-map-range_with_len (own_at endless) 0 (length endless))))
  where
    is_known : (b : Bool) (i : ℕ) → is_some (own_origin b i) ≡ b
    is_known true i = refl
    is_known false i = refl

    each : (i : ℕ) → i < length endless → get_or (known_in (owns endless)) i false ≡ get_or endless i false
    each i low =
        get_or-map is_some (owns endless) i None false (omega (arith, low, length-map-range_with_len (own_at endless) 0 (length endless)))
        ∙ ap is_some (get_or-map-range_with_len (own_at endless) 0 (length endless) i i None low (omega arith))
        ∙ is_known (get_or endless i false) i

own_is : (endless : List Bool) (x o : ℕ) → origins_in (owns endless) x ≡ Some o → (x ≡ o) × (get_or endless x false ≡ true)
own_is endless x o is = by_place (cases_lt x (length endless))
  where
    by_flag : (b : Bool) → own_origin b x ≡ Some o → (x ≡ o) × (b ≡ true)
    by_flag true same = (same_Some x o same, refl)
    by_flag false none = absurd (cc none)

    by_place : (x < length endless) ⊎ (length endless ≤ x) → (x ≡ o) × (get_or endless x false ≡ true)
    by_place (inl low) =
        by_flag (get_or endless x false)
        (sym (get_or-map-range_with_len (own_at endless) 0 (length endless) x x None low (omega arith)) ∙ is)
    by_place (inr past) =
        absurd (cc (sym (get_or_past (owns endless) x None
        (omega (arith, past, length-map-range_with_len (own_at endless) 0 (length endless)))) ∙ is))

-- what is there, is told
pub told_is : (o : Option ℕ) (d : ℕ) → is_some o ≡ true → o ≡ Some (unwrap_or o d)
told_is (Some origin) d is = refl
told_is None d is = absurd (cc is)

pub none_is_told : (o : Option ℕ) → is_none o ≡ true → is_some o ≡ false
none_is_told (Some origin) is = absurd (cc is)
none_is_told None is = refl

-- one point is told, where nothing was told
pub origin_more : (origins : List (Option ℕ)) (point v : ℕ) (work after : List ℕ) → point < length origins
    → is_some (get_or origins point None) ≡ false → after ≡ work ++ point ∷ []
    → search_of (known_in (slice_set origins point (Some v))) after ≡ with_known (search_of (known_in origins) work) point
origin_more origins point v work after below none is =
    let unknown : get_or (known_in origins) point false ≡ false = get_or-map is_some origins point None false below ∙ none in
    let work_is : after ≡ (if get_or (known_in origins) point false then work else work ++ point ∷ []) =
    is ∙ ap (λ b. if b then work else work ++ point ∷ []) (sym unknown) in
    λ i. search_of (map-set is_some origins point (Some v) i) (work_is i)

-- of one point more it is told
pub adds_more : (xs : List ℕ) (x origin : ℕ) (old middle new : List (Option ℕ)) → AddsOrigin xs origin old middle → AddsOrigin (x ∷ []) origin middle new
    → AddsOrigin (xs ++ x ∷ []) origin old new
adds_more xs x origin old middle new first one = record {
  count = one.count ∙ first.count;
  each = λ y o is. elim (one.each y o is) [
    | inl before ↦ elim (first.each y o before) [
      | inl at_first ↦ inl at_first
      | inr (among, same) ↦ inr (Contains-append_left xs (x ∷ []) y among, same)
    ]
    | inr (here, same) ↦ inr (Contains-append_right xs (x ∷ []) y here, same)
  ];
}

pub adds_none : (origin : ℕ) (origins : List (Option ℕ)) → AddsOrigin [] origin origins origins
adds_none origin origins = record { count = refl; each = λ x o is. inl is }

-- at first endless points are known
pub trace_begins : (program : Program) (endless : List Bool) (origins : List (Option ℕ)) (work : List ℕ) → TellEndless program endless
    → origins ≡ owns endless → work ≡ filter (λ x. get_or endless x false) (range_with_len 0 (length endless))
    → Traces program endless 0 origins work
trace_begins program endless origins work tell own is = record {
  passed = omega arith;
  searches = subst (λ (s : Search). Searches program endless s) (λ i. search_of (sym known i) (sym is i)) (search_begins program endless tell.count);
  traced = λ x o at.
      let (same, marked) = own_is endless x o (ap (λ (os : List (Option ℕ)). origins_in os x) (sym own) ∙ at) in
      let low : x < point_count program = below x marked in
      record {
        below = omega (arith, low, same);
        path = [];
        leads = same;
        endless = subst (λ z. ¬ (HasBackwardPath (shape_of program) z)) same ((tell.each x low).0 marked);
      };
}
  where
    known : known_in origins ≡ endless
    known = ap known_in own ∙ own_known endless

    below : (x : ℕ) → get_or endless x false ≡ true → x < point_count program
    below x marked = by_case (cases_lt x (length endless))
      where
        by_case : (x < length endless) ⊎ (length endless ≤ x) → x < point_count program
        by_case (inl inside) = omega (arith, inside, tell.count)
        by_case (inr past) = absurd (cc (sym (get_or_past endless x false past) ∙ marked))

-- a path from a point ends at a point
path_ends : (program : Program) → IsSound program → (path : List Edge) (start finish : ℕ) → start < point_count program
    → IsPath (shape_of program) start path finish → finish < point_count program
path_ends program sound [] start finish below same = omega (arith, same)
path_ends program sound (edge ∷ path) start finish below along =
    path_ends program sound path (target_of edge) finish (edges_join_points program sound edge along.0).target along.2

-- where nothing is left to be looked at, all is told
pub trace_tells : (program : Program) (endless : List Bool) (next : ℕ) (origins : List (Option ℕ)) (work : List ℕ) → IsSound program
    → TellEndless program endless → Traces program endless next origins work → length work ≤ next → AreOrigins program (origins_in origins)
trace_tells program endless next origins work sound tell traces all point below = by_origin (origins_in origins point) refl
  where
    tells : TellLeading program endless (known_in origins)
    tells = search_tells program endless (known_in origins) (drop next work) traces.searches (drop_all next work all)

    known : get_or (known_in origins) point false ≡ is_some (origins_in origins point)
    known = get_or-map is_some origins point None false (omega (arith, below, tells.count, length-map origins is_some))

    leads : IsDoubtful (shape_of program) point → LeadsTo program endless point
    leads (path, ahead, along, none) =
        (path, ahead, along, (tell.each ahead (path_ends program sound path point ahead below along)).1 none)

    by_origin : (o : Option ℕ) → origins_in origins point ≡ o
        → MatchOption o (¬ (IsDoubtful (shape_of program) point)) (λ origin. IsDoubtOrigin program point origin)
    by_origin (Some origin) is = traces.traced point origin is
    by_origin None is = λ doubt.
        let there = (tells.each point below).1 (leads doubt) in
        let told = ap is_some is in
        absurd (cc (sym known ∙ there, told))
