-- The search backwards from the marked points
use Rattle.std.proofs.Common.{◌≡◌, ◌≢◌, ◌⊎◌, inl, inr, ℕ, suc, ◌+◌, ◌<◌, ◌≤◌, Bool, true, false, List, [], ◌∷◌, ◌++◌, length, get_or, set, fold}
use Rattle.std.proofs.Common.{sum_by, All, Contains, nat_eq, if◌then◌else◌, refl, sym, ap, ◌∙◌, subst, arith, length-append, length-set}
use Rattle.std.proofs.Common.{get_or-set_same, get_or-set_other}
use Rattle.std.specs.List.{filter, range_with_len}
use Rattle.std.proofs.lemmas.Bool.{cases_lt}
use Rattle.std.proofs.lemmas.List.{get_or_past, get_or-map, length-map, get_or_default}
use Rattle.std.proofs.lemmas.List.Elements.{Contains-append_left, Contains-append_right, Contains-append_cases}
use Rattle.std.proofs.lemmas.List.Sums.{sum_by-set}
use Rattle.smallvec.specs.SmallVec.{SmallVec}
use Rattle.tac_program.specs.Programs.{Program}
use Rattle.tac_program.specs.Sound.{IsSound}
use Rattle.flow_graph.specs.Analyses.{shape_of}
use Rattle.flow_graph.specs.Leading.{LeadsTo, TellLeading}
use Rattle.flow_graph.specs.code.Searching.{AreSources, sources_of, Search, search_of, with_known}
use Rattle.flow_graph.specs.code.NumberLists.{contents}
use Rattle.flow_graph.specs.Paths.{Edge, IsPath, target_of}
use Rattle.flow_graph.specs.Points.{point_count}
use Rattle.flow_graph.proofs.lists.Membership.{Contains-first, Contains-later, Contains-nil, Contains-cons, Contains-one, Contains-in_range}
use Rattle.flow_graph.proofs.lists.Membership.{Contains-range, Contains-in_filter, Contains-filter}
use Rattle.flow_graph.proofs.edges.SourceLemmas.{HasEdge, sources_have_edges, edges_have_sources}

-- whether a point is known
abbrev pub Knows : List Bool → ℕ → Type 0
Knows known x = get_or known x false ≡ true

-- how many points are not known
abbrev pub one_if_not : Bool → ℕ
one_if_not b = if b then 0 else 1

abbrev pub unknown : List Bool → ℕ
unknown known = sum_by one_if_not known

-- how much is left to do
abbrev pub remaining : Search → ℕ
remaining search = unknown search.known + length search.work

-- there are as many truth values
pub length-known : (search : Search) (xs : List ℕ) → length (fold with_known search xs).known ≡ length search.known
length-known search [] = refl
length-known search (x ∷ xs) = length-known (with_known search x) xs ∙ length-set search.known x true

-- what making each of some points known does
pub record HaveBecomeKnown (xs : List ℕ) (old new : Search) : Type 0 where
  pub count : length new.known ≡ length old.known
  pub made : (x : ℕ) → Contains xs x → Knows new.known x
  pub kept : (x : ℕ) → Knows old.known x → Knows new.known x
  pub only : (x : ℕ) → Knows new.known x → Knows old.known x ⊎ (Contains xs x × Contains new.work x)
  pub work : (x : ℕ) → Contains old.work x → Contains new.work x
  pub only_work : (x : ℕ) → Contains new.work x → Contains old.work x ⊎ Contains xs x
  pub remains : remaining new ≡ remaining old

-- one point
pub one_known : (old : Search) (x : ℕ) → x < length old.known → HaveBecomeKnown (x ∷ []) old (with_known old x)
one_known old x below = by_test (get_or old.known x false) refl
  where
    made_known : Knows (set old.known x true) x
    made_known = get_or-set_same old.known x true false below

    kept_known : (z : ℕ) → (b : Bool) → nat_eq z x ≡ b → Knows old.known z → Knows (set old.known x true) z
    kept_known z true test is =
        let same : z ≡ x = grind arith in
        subst (Knows (set old.known x true)) (sym same) (get_or-set_same old.known x true false below)
    kept_known z false test is = let other : z ≢ x = grind arith in get_or-set_other old.known x z true false other ∙ is

    known_before : (z : ℕ) → z ≢ x → Knows (set old.known x true) z → Knows old.known z
    known_before z other is = sym (get_or-set_other old.known x z true false other) ∙ is

    counted : unknown (set old.known x true) + one_if_not (get_or old.known x false) ≡ unknown old.known + 0
    counted = sum_by-set one_if_not old.known x true false below

    by_test : (b : Bool) → get_or old.known x false ≡ b
        → HaveBecomeKnown (x ∷ []) old (search_of (set old.known x true) (if b then old.work else old.work ++ x ∷ []))
    by_test true was = record {
      count = length-set old.known x true;
      made = λ z at. subst (Knows (set old.known x true)) (sym (Contains-one x z at)) (get_or-set_same old.known x true false below);
      kept = λ z is. kept_known z (nat_eq z x) refl is;
      only = λ z is. inl (known_again z (nat_eq z x) refl is);
      work = λ z at. at;
      only_work = λ z at. inl at;
      remains = omega (arith, counted, ap one_if_not was);
    }
      where
        known_again : (z : ℕ) (c : Bool) → nat_eq z x ≡ c → Knows (set old.known x true) z → Knows old.known z
        known_again z true test is = let same : z ≡ x = grind arith in subst (Knows old.known) (sym same) was
        known_again z false test is = known_before z (grind arith) is
    by_test false was = record {
      count = length-set old.known x true;
      made = λ z at. subst (Knows (set old.known x true)) (sym (Contains-one x z at)) (get_or-set_same old.known x true false below);
      kept = λ z is. kept_known z (nat_eq z x) refl is;
      only = λ z is. new_or_old z (nat_eq z x) refl is;
      work = λ z at. Contains-append_left old.work (x ∷ []) z at;
      only_work = λ z at. Contains-append_cases old.work (x ∷ []) z at;
      remains = omega (arith, counted, ap one_if_not was, length-append old.work (x ∷ []));
    }
      where
        new_or_old : (z : ℕ) (c : Bool) → nat_eq z x ≡ c → Knows (set old.known x true) z
            → Knows old.known z ⊎ (Contains (x ∷ []) z × Contains (old.work ++ x ∷ []) z)
        new_or_old z true test is =
            let same : x ≡ z = grind arith in
            inr (
              subst (Contains (x ∷ [])) same (Contains-first x []),
              Contains-append_right old.work (x ∷ []) z (subst (Contains (x ∷ [])) same (Contains-first x [])),
            )
        new_or_old z false test is = inl (known_before z (grind arith) is)

-- and each of some
pub all_known : (old : Search) (xs : List ℕ) → All (λ x. x < length old.known) xs → HaveBecomeKnown xs old (fold with_known old xs)
all_known old [] inside = record {
  count = refl;
  made = λ x at. absurd (Contains-nil x at);
  kept = λ x is. is;
  only = λ x is. inl is;
  work = λ x at. at;
  only_work = λ x at. inl at;
  remains = refl;
}
all_known old (x ∷ xs) inside =
    let first : HaveBecomeKnown (x ∷ []) old (with_known old x) = one_known old x (inside 0 0 (omega arith)) in
    let rest : HaveBecomeKnown xs (with_known old x) (fold with_known (with_known old x) xs) =
    all_known (with_known old x) xs (λ k d below. omega (arith, inside (suc k) d (omega arith), first.count)) in
    record {
      count = rest.count ∙ first.count;
      made = λ z at.
          elim (Contains-cons x xs z at) [
            | inl same ↦ rest.kept z (first.made z (subst (Contains (x ∷ [])) (sym same) (Contains-first x [])))
            | inr later ↦ rest.made z later
          ];
      kept = λ z is. rest.kept z (first.kept z is);
      only = λ z is. only_step x xs old (with_known old x) (fold with_known (with_known old x) xs) first rest z (rest.only z is);
      work = λ z at. rest.work z (first.work z at);
      only_work = λ z at. only_work_step x xs old (with_known old x) first z (rest.only_work z at);
      remains = rest.remains ∙ first.remains;
    }
  where
    in_front : (x z : ℕ) (xs : List ℕ) → Contains (x ∷ []) z → Contains (x ∷ xs) z
    in_front x z xs at = subst (Contains (x ∷ xs)) (sym (Contains-one x z at)) (Contains-first x xs)

    only_step : (x : ℕ) (xs : List ℕ) (old next new : Search) → HaveBecomeKnown (x ∷ []) old next → HaveBecomeKnown xs next new → (z : ℕ)
        → Knows next.known z ⊎ (Contains xs z × Contains new.work z) → Knows old.known z ⊎ (Contains (x ∷ xs) z × Contains new.work z)
    only_step x xs old next new first rest z (inr (later, at)) = inr (Contains-later x xs z later, at)
    only_step x xs old next new first rest z (inl is) =
        elim (first.only z is) [
          | inl before ↦ inl before
          | inr here ↦ inr (in_front x z xs here.0, rest.work z here.1)
        ]

    only_work_step : (x : ℕ) (xs : List ℕ) (old next : Search) → HaveBecomeKnown (x ∷ []) old next → (z : ℕ)
        → Contains next.work z ⊎ Contains xs z → Contains old.work z ⊎ Contains (x ∷ xs) z
    only_work_step x xs old next first z (inr later) = inr (Contains-later x xs z later)
    only_work_step x xs old next first z (inl at) =
        elim (first.only_work z at) [
          | inl before ↦ inl before
          | inr here ↦ inr (in_front x z xs here)
        ]

-- What holds all along: what is known leads to a marked point, and an edge to what is known comes from what is known,
-- unless its target is still to be looked at.
pub record Searches (program : Program) (marked : List Bool) (search : Search) : Type 0 where
  pub count : length search.known ≡ point_count program
  pub inside : (x : ℕ) → Contains search.work x → x < point_count program
  pub sound : (x : ℕ) → Knows search.known x → LeadsTo program marked x
  pub found : (x : ℕ) → Contains search.work x → Knows search.known x
  pub includes : (x : ℕ) → Knows marked x → Knows search.known x
  pub closed : (x y : ℕ) → HasEdge program x y → Knows search.known y → Knows search.known x ⊎ Contains search.work y

-- a point with an edge to one that leads to a marked point leads to it too
leads_back : (program : Program) (marked : List Bool) (x y : ℕ) → HasEdge program x y → LeadsTo program marked y → LeadsTo program marked x
leads_back program marked x y (edge, at, from, to) (path, ahead, is_path, is_marked) =
    (edge ∷ path, ahead, (at, from, subst (λ z. IsPath (shape_of program) z path ahead) (sym to) is_path), is_marked)

-- the sources of one point looked at
pub one_looked_at : (program : Program) (marked known : List Bool) (work : List ℕ) (point : ℕ) (new : Search) → IsSound program
    → Searches program marked (search_of known (work ++ point ∷ [])) → HaveBecomeKnown (sources_of program point) (search_of known work) new
    → Searches program marked new
one_looked_at program marked known work point new sound searches become = record {
  count = become.count ∙ searches.count;
  inside = λ x at. inside_step x (become.only_work x at);
  sound = λ x is. sound_step x (become.only x is);
  found = λ x at. found_step x (become.only_work x at);
  includes = λ x is. become.kept x (searches.includes x is);
  closed = λ x y edge is. closed_step x y edge (become.only y is);
}
  where
    last : Contains (work ++ point ∷ []) point
    last = Contains-append_right work (point ∷ []) point (Contains-first point [])

    inside_step : (x : ℕ) → Contains work x ⊎ Contains (sources_of program point) x → x < point_count program
    inside_step x (inl at) = searches.inside x (Contains-append_left work (point ∷ []) x at)
    inside_step x (inr at) = (sources_have_edges program sound x point at).0

    sound_step : (x : ℕ) → Knows known x ⊎ (Contains (sources_of program point) x × Contains new.work x) → LeadsTo program marked x
    sound_step x (inl is) = searches.sound x is
    sound_step x (inr (at, working)) = leads_back program marked x point (sources_have_edges program sound x point at).1
        (searches.sound point (searches.found point (Contains-append_right work (point ∷ []) point (Contains-first point []))))

    found_step : (x : ℕ) → Contains work x ⊎ Contains (sources_of program point) x → Knows new.known x
    found_step x (inl at) = become.kept x (searches.found x (Contains-append_left work (point ∷ []) x at))
    found_step x (inr at) = become.made x at

    looked : (x y : ℕ) → HasEdge program x y → Contains work y ⊎ Contains (point ∷ []) y → Knows new.known x ⊎ Contains new.work y
    looked x y edge (inl at) = inr (become.work y at)
    looked x y edge (inr here) =
        inl (become.made x (edges_have_sources program sound x point (subst (HasEdge program x) (Contains-one point y here) edge)))

    closed_step : (x y : ℕ) → HasEdge program x y → Knows known y ⊎ (Contains (sources_of program point) y × Contains new.work y)
        → Knows new.known x ⊎ Contains new.work y
    closed_step x y edge (inr (at, working)) = inr working
    closed_step x y edge (inl is) =
        elim (searches.closed x y edge is) [
          | inl before ↦ inl (become.kept x before)
          | inr at ↦ looked x y edge (Contains-append_cases work (point ∷ []) y at)
        ]

-- what stands in the table of sources
pub reads_sources : (program : Program) (lists : List (SmallVec ℕ)) (point : ℕ) (list : SmallVec ℕ) (sources : List ℕ)
    → AreSources program (contents lists)
    → point < point_count program → list ≡ get_or lists point list → sources ≡ list.items → sources ≡ sources_of program point
reads_sources program lists point list sources are below read is =
    let there : point < length lists = omega (arith, are.count, length-map lists (λ (list : SmallVec ℕ). list.items)) in
    is ∙ ap (λ (list : SmallVec ℕ). list.items) read ∙ sym (get_or-map (λ (list : SmallVec ℕ). list.items) lists point list [] there)
    ∙ are.each point [] below

pub sources_are_points : (program : Program) → IsSound program → (point : ℕ) → All (λ x. x < point_count program) (sources_of program point)
sources_are_points program sound point k d inside =
    (sources_have_edges program sound (get_or (sources_of program point) k d) point
    (k, inside, get_or_default (sources_of program point) k _ d inside)).0

-- the point that is looked at
pub looked_at_inside : (program : Program) (marked known : List Bool) (work rest : List ℕ) (point : ℕ)
    → Searches program marked (search_of known work) → work ≡ rest ++ point ∷ [] → point < point_count program
looked_at_inside program marked known work rest point searches is =
    searches.inside point (subst (λ w. Contains w point) (sym is) (Contains-append_right rest (point ∷ []) point (Contains-first point [])))

-- one step of the search
pub record StepTaken (program : Program) (marked : List Bool) (old new : Search) : Type 0 where
  pub searches : Searches program marked new
  pub smaller : remaining new < remaining old

pub step_taken : (program : Program) (marked known : List Bool) (work rest : List ℕ) (point : ℕ) (sources : List ℕ) (new : Search) → IsSound program
    → Searches program marked (search_of known work) → work ≡ rest ++ point ∷ [] → sources ≡ sources_of program point
    → new ≡ fold with_known (search_of known rest) sources
    → StepTaken program marked (search_of known work) new
step_taken program marked known work rest point sources new sound searches work_is sources_are is =
    let become : HaveBecomeKnown (sources_of program point) (search_of known rest)
    (fold with_known (search_of known rest) (sources_of program point)) =
    all_known (search_of known rest) (sources_of program point)
    (λ k d inside. omega (arith, searches.count, sources_are_points program sound point k d inside)) in
    let same : new ≡ fold with_known (search_of known rest) (sources_of program point) =
    is ∙ ap (λ xs. fold with_known (search_of known rest) xs) sources_are in
    let become_new : HaveBecomeKnown (sources_of program point) (search_of known rest) new =
    subst (HaveBecomeKnown (sources_of program point) (search_of known rest)) (sym same) become in
    let before : Searches program marked (search_of known (rest ++ point ∷ [])) =
    subst (λ w. Searches program marked (search_of known w)) work_is searches in
    record {
      searches = one_looked_at program marked known rest point new sound before become_new;
      smaller = omega (arith, become_new.remains, ap length work_is, length-append rest (point ∷ []));
    }

-- the search begins at the marked points
pub search_begins : (program : Program) (marked : List Bool) → length marked ≡ point_count program
    → Searches program marked (search_of marked (filter (λ x. get_or marked x false) (range_with_len 0 (length marked))))
search_begins program marked count = record {
  count = count;
  inside = λ x at.
      let (among, passes) = Contains-in_filter (λ x. get_or marked x false) (range_with_len 0 (length marked)) x at in
      let (low, high) = Contains-in_range 0 (length marked) x among in
      omega (arith, high, count);
  sound = λ x is. ([], x, refl, is);
  found = λ x at. (Contains-in_filter (λ x. get_or marked x false) (range_with_len 0 (length marked)) x at).1;
  includes = λ x is. is;
  closed = λ x y edge is. inr (Contains-filter (λ x. get_or marked x false) (range_with_len 0 (length marked)) y
      (Contains-range 0 (length marked) y (omega arith) (omega (arith, below y is))) is);
}
  where
    below : (y : ℕ) → Knows marked y → y < length marked
    below y is = by_case (cases_lt y (length marked))
      where
        by_case : (y < length marked) ⊎ (length marked ≤ y) → y < length marked
        by_case (inl inside) = inside
        by_case (inr past) = absurd (cc (sym (get_or_past marked y false past) ∙ is))

-- where nothing is left to be looked at, all that leads to a marked point is known
complete : (program : Program) (marked known : List Bool) → Searches program marked (search_of known []) → (path : List Edge) (x ahead : ℕ)
    → IsPath (shape_of program) x path ahead → Knows marked ahead → Knows known x
complete program marked known searches [] x ahead same is = searches.includes x (subst (Knows marked) (sym same) is)
complete program marked known searches (edge ∷ path) x ahead (at, from, rest) is =
    elim (searches.closed x (target_of edge) (edge, at, from, refl) (complete program marked known searches path (target_of edge) ahead rest is)) [
      | inl done ↦ done
      | inr none ↦ absurd (Contains-nil (target_of edge) none)
    ]

pub search_tells : (program : Program) (marked known : List Bool) (work : List ℕ) → Searches program marked (search_of known work) → work ≡ []
    → TellLeading program marked known
search_tells program marked known work searches none =
    let done : Searches program marked (search_of known []) = subst (λ w. Searches program marked (search_of known w)) none searches in
    record {
      count = done.count;
      each = λ point below. (λ is. done.sound point is, λ leads. complete program marked known done leads.0 point leads.1 leads.2 leads.3);
    }
