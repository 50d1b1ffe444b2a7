-- The search backwards from the marked points, through some points alone
use Rattle.std.proofs.Common.{◌≡◌, ◌⊎◌, inl, inr, ℕ, ◌<◌, ◌≤◌, Bool, false, List, [], ◌∷◌, ◌++◌, length, get_or, fold}
use Rattle.std.proofs.Common.{All, Contains, refl, sym, ap, ◌∙◌, subst, arith, length-append}
use Rattle.std.specs.List.{filter, range_with_len}
use Rattle.std.proofs.lemmas.Bool.{cases_lt}
use Rattle.std.proofs.lemmas.List.{get_or_past, get_or_default}
use Rattle.std.proofs.lemmas.List.Elements.{Contains-append_left, Contains-append_right, Contains-append_cases}
use Rattle.flow_graph.specs.Analyses.{shape_of}
use Rattle.flow_graph.specs.Paths.{IsPath, target_of}
use Rattle.flow_graph.specs.Points.{point_count}
use Rattle.flow_graph.specs.code.Searching.{sources_of, Search, search_of, with_known}
use Rattle.flow_graph.specs.declared.edge.Edge.{Edge}
use Rattle.flow_graph.proofs.edges.LeadingLemmas.{HaveBecomeKnown, Knows, all_known, remaining}
use Rattle.flow_graph.proofs.edges.SourceLemmas.{HasEdge, sources_have_edges, edges_have_sources}
use Rattle.flow_graph.proofs.lists.Membership.{Contains-first, Contains-nil, Contains-one, Contains-in_range, Contains-range, Contains-in_filter}
use Rattle.flow_graph.proofs.lists.Membership.{Contains-filter}
use Rattle.flow_lints.specs.code.Leading.{IsAmongAlong, LeadsAmong, TellLeadingAmong}
use Rattle.tac_program.specs.Programs.{Program}
use Rattle.tac_program.specs.Sound.{IsSound}

-- What holds all along: what is known leads to a marked point through these points, and an edge between two of them to what is known comes
-- from what is known, unless its target is still to be looked at.
pub record Searches (program : Program) (among marked : List Bool) (search : Search) : Type 0 where
  pub count : length search.known ≡ point_count program
  pub inside : (x : ℕ) → Contains search.work x → x < point_count program
  pub sound : (x : ℕ) → Knows search.known x → LeadsAmong program among marked x
  pub found : (x : ℕ) → Contains search.work x → Knows search.known x
  pub includes : (x : ℕ) → Knows marked x → Knows search.known x
  pub closed : (x y : ℕ) → HasEdge program x y → Knows among x → Knows search.known y → Knows search.known x ⊎ Contains search.work y

-- one of these points with an edge to one that leads to a marked point leads to it too
leads_back : (program : Program) (among marked : List Bool) (x y : ℕ) → HasEdge program x y → Knows among x → LeadsAmong program among marked y
    → LeadsAmong program among marked x
leads_back program among marked x y (edge, at, from, to) is_among (path, ahead, is_path, along, is_marked) = (
  edge ∷ path,
  ahead,
  (at, from, subst (λ z. IsPath (shape_of program) z path ahead) (sym to) is_path),
  (is_among, subst (λ z. IsAmongAlong among z path) (sym to) along),
  is_marked,
)

-- those of the sources of a point that are among these
abbrev pub kept : List Bool → List ℕ → List ℕ
kept among points = filter (λ x. get_or among x false) points

-- the sources of one point looked at
one_looked_at : (program : Program) (among marked known : List Bool) (work : List ℕ) (point : ℕ) (new : Search) → IsSound program
    → Searches program among marked (search_of known (work ++ point ∷ []))
    → HaveBecomeKnown (kept among (sources_of program point)) (search_of known work) new
    → Searches program among marked new
one_looked_at program among marked known work point new sound searches become = record {
  count = become.count ∙ searches.count;
  inside = λ x at. inside_step x (become.only_work x at);
  sound = λ x is. sound_step x (become.only x is);
  found = λ x at. found_step x (become.only_work x at);
  includes = λ x is. become.kept x (searches.includes x is);
  closed = λ x y edge is_among is. closed_step x y edge is_among (become.only y is);
}
  where
    a_source : (x : ℕ) → Contains (kept among (sources_of program point)) x → Contains (sources_of program point) x × Knows among x
    a_source x at = Contains-in_filter (λ z. get_or among z false) (sources_of program point) x at

    inside_step : (x : ℕ) → Contains work x ⊎ Contains (kept among (sources_of program point)) x → x < point_count program
    inside_step x (inl at) = searches.inside x (Contains-append_left work (point ∷ []) x at)
    inside_step x (inr at) = (sources_have_edges program sound x point (a_source x at).0).0

    sound_step : (x : ℕ) → Knows known x ⊎ (Contains (kept among (sources_of program point)) x × Contains new.work x)
        → LeadsAmong program among marked x
    sound_step x (inl is) = searches.sound x is
    sound_step x (inr (at, working)) =
        leads_back program among marked x point (sources_have_edges program sound x point (a_source x at).0).1 (a_source x at).1
        (searches.sound point (searches.found point (Contains-append_right work (point ∷ []) point (Contains-first point []))))

    found_step : (x : ℕ) → Contains work x ⊎ Contains (kept among (sources_of program point)) x → Knows new.known x
    found_step x (inl at) = become.kept x (searches.found x (Contains-append_left work (point ∷ []) x at))
    found_step x (inr at) = become.made x at

    looked : (x y : ℕ) → HasEdge program x y → Knows among x → Contains work y ⊎ Contains (point ∷ []) y → Knows new.known x ⊎ Contains new.work y
    looked x y edge is_among (inl at) = inr (become.work y at)
    looked x y edge is_among (inr here) =
        inl (become.made x (Contains-filter (λ z. get_or among z false) (sources_of program point) x
        (edges_have_sources program sound x point (subst (HasEdge program x) (Contains-one point y here) edge)) is_among))

    closed_step : (x y : ℕ) → HasEdge program x y → Knows among x
        → Knows known y ⊎ (Contains (kept among (sources_of program point)) y × Contains new.work y) → Knows new.known x ⊎ Contains new.work y
    closed_step x y edge is_among (inr (at, working)) = inr working
    closed_step x y edge is_among (inl is) =
        elim (searches.closed x y edge is_among is) [
          | inl before ↦ inl (become.kept x before)
          | inr at ↦ looked x y edge is_among (Contains-append_cases work (point ∷ []) y at)
        ]

-- the point that is looked at
pub looked_at_inside : (program : Program) (among marked known : List Bool) (work rest : List ℕ) (point : ℕ)
    → Searches program among marked (search_of known work) → work ≡ rest ++ point ∷ [] → point < point_count program
looked_at_inside program among marked known work rest point searches is =
    searches.inside point (subst (λ w. Contains w point) (sym is) (Contains-append_right rest (point ∷ []) point (Contains-first point [])))

-- those that are kept are points
kept_are_points : (program : Program) (among : List Bool) → IsSound program → (point : ℕ)
    → All (λ x. x < point_count program) (kept among (sources_of program point))
kept_are_points program among sound point k d inside =
    let at : Contains (kept among (sources_of program point)) (get_or (kept among (sources_of program point)) k d) =
    (k, inside, get_or_default (kept among (sources_of program point)) k _ d inside) in
    (sources_have_edges program sound (get_or (kept among (sources_of program point)) k d) point
    (Contains-in_filter (λ z. get_or among z false) (sources_of program point) _ at).0).0

-- one step of the search
pub record StepTaken (program : Program) (among marked : List Bool) (old new : Search) : Type 0 where
  pub searches : Searches program among marked new
  pub smaller : remaining new < remaining old

pub step_taken : (program : Program) (among marked known : List Bool) (work rest : List ℕ) (point : ℕ) (sources : List ℕ) (new : Search)
    → IsSound program → Searches program among marked (search_of known work) → work ≡ rest ++ point ∷ [] → sources ≡ sources_of program point
    → new ≡ fold with_known (search_of known rest) (kept among sources)
    → StepTaken program among marked (search_of known work) new
step_taken program among marked known work rest point sources new sound searches work_is sources_are is =
    let become : HaveBecomeKnown (kept among (sources_of program point)) (search_of known rest)
    (fold with_known (search_of known rest) (kept among (sources_of program point))) =
    all_known (search_of known rest) (kept among (sources_of program point))
    (λ k d inside. omega (arith, searches.count, kept_are_points program among sound point k d inside)) in
    let same : new ≡ fold with_known (search_of known rest) (kept among (sources_of program point)) =
    is ∙ ap (λ xs. fold with_known (search_of known rest) (kept among xs)) sources_are in
    let become_new : HaveBecomeKnown (kept among (sources_of program point)) (search_of known rest) new =
    subst (HaveBecomeKnown (kept among (sources_of program point)) (search_of known rest)) (sym same) become in
    let before : Searches program among marked (search_of known (rest ++ point ∷ [])) =
    subst (λ w. Searches program among marked (search_of known w)) work_is searches in
    record {
      searches = one_looked_at program among marked known rest point new sound before become_new;
      smaller = omega (arith, become_new.remains, ap length work_is, length-append rest (point ∷ []));
    }

-- the search begins at the marked points, which are among these
pub search_begins : (program : Program) (among marked : List Bool) → length marked ≡ point_count program
    → ((point : ℕ) → Knows marked point → Knows among point)
    → Searches program among marked (search_of marked (filter (λ x. get_or marked x false) (range_with_len 0 (length marked))))
search_begins program among marked count within = record {
  count = count;
  inside = λ x at.
      let (in_range, passes) = Contains-in_filter (λ x. get_or marked x false) (range_with_len 0 (length marked)) x at in
      let (low, high) = Contains-in_range 0 (length marked) x in_range in
      omega (arith, high, count);
  sound = λ x is. ([], x, refl, within x is, is);
  found = λ x at. (Contains-in_filter (λ x. get_or marked x false) (range_with_len 0 (length marked)) x at).1;
  includes = λ x is. is;
  closed = λ x y edge is_among is. inr (Contains-filter (λ x. get_or marked x false) (range_with_len 0 (length marked)) y
      (Contains-range 0 (length marked) y (omega arith) (omega (arith, below y is))) is);
}
  where
    below : (y : ℕ) → Knows marked y → y < length marked
    below y is = by_case (cases_lt y (length marked))
      where
        by_case : (y < length marked) ⊎ (length marked ≤ y) → y < length marked
        by_case (inl inside) = inside
        by_case (inr past) = absurd (cc (sym (get_or_past marked y false past) ∙ is))

-- where nothing is left to be looked at, all that leads to a marked point through these points is known
complete : (program : Program) (among marked known : List Bool) → Searches program among marked (search_of known []) → (path : List Edge) (x ahead : ℕ)
    → IsPath (shape_of program) x path ahead → IsAmongAlong among x path → Knows marked ahead → Knows known x
complete program among marked known searches [] x ahead same along is = searches.includes x (subst (Knows marked) (sym same) is)
complete program among marked known searches (edge ∷ path) x ahead (at, from, rest) along is =
    elim (searches.closed x (target_of edge) (edge, at, from, refl) along.0
    (complete program among marked known searches path (target_of edge) ahead rest along.1 is)) [
      | inl done ↦ done
      | inr none ↦ absurd (Contains-nil (target_of edge) none)
    ]

pub search_tells : (program : Program) (among marked known : List Bool) (work : List ℕ) → Searches program among marked (search_of known work)
    → work ≡ [] → TellLeadingAmong program among marked known
search_tells program among marked known work searches none =
    let done : Searches program among marked (search_of known []) = subst (λ w. Searches program among marked (search_of known w)) none searches in
    record {
      count = done.count;
      each = λ point below. (
        λ is. done.sound point is,
        λ leads. complete program among marked known done leads.0 point leads.1 leads.2 leads.3 leads.4,
      );
    }
