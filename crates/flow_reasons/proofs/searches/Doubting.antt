-- The search along all paths from a point for one that has no backward valid path
use Rattle.std.proofs.Common.{◌≡◌, ◌⊎◌, ◌↔◌, inl, inr, ℕ, ◌+◌, ◌<◌, ◌≤◌, Bool, true, false, List, [], ◌∷◌, ◌++◌, length, get_or, drop, map}
use Rattle.std.proofs.Common.{All, Contains, fold, replicate, slice_set, if◌then◌else◌, refl, sym, ap, ◌∙◌, subst, arith, append_assoc, append-nil}
use Rattle.std.proofs.Common.{length-append}
use Rattle.std.proofs.lemmas.Bool.{cases_lt}
use Rattle.std.proofs.lemmas.List.{drop-append-le, drop_all, drop_more, get_or_past, get_or-replicate, length-replicate}
use Rattle.std.proofs.lemmas.List.Elements.{All-map, Contains-append_left, Contains-get_or}
use Rattle.std.proofs.lemmas.List.Folds.{fold-map, sum_by-replicate}
use Rattle.tac_program.specs.Programs.{Program}
use Rattle.tac_program.specs.Sound.{IsSound}
use Rattle.flow_graph.specs.Analyses.{shape_of}
use Rattle.flow_graph.specs.Edges.{edges_from}
use Rattle.flow_graph.specs.Paths.{IsPath, HasBackwardPath, HasPath, target_of}
use Rattle.flow_graph.specs.Points.{point_count}
use Rattle.flow_graph.specs.Runs.{IsDoubtful}
use Rattle.flow_graph.specs.declared.edge.Edge.{Edge}
use Rattle.flow_graph.specs.code.Searching.{Search, search_of, with_known}
use Rattle.flow_graph.proofs.edges.EdgeLemmas.{edges_are, edges_from_are, leaves, source_is}
use Rattle.flow_graph.proofs.edges.LeadingLemmas.{HaveBecomeKnown, Knows, all_known, one_if_not, one_known, remaining}
use Rattle.flow_graph.proofs.edges.SourceLemmas.{HasEdge, targets_are_points}
use Rattle.flow_graph.proofs.graphs.GraphLaws.{edges_join_points}
use Rattle.flow_graph.proofs.lists.Membership.{Contains-cons, Contains-first, Contains-in_map, Contains-nil, Contains-one}
use Rattle.flow_graph.proofs.paths.PathLemmas.{IsPath-append}
use Rattle.flow_graph.proofs.paths.Reversal.{Contains-map, meets_reverse}
use Rattle.flow_links.specs.Shapes.{LinkedProgram, directed_shape}
use Rattle.flow_reasons.specs.Doubts.{IsDoubtOrigin}

-- some path leads from one point to another
abbrev pub Leads : Program → ℕ → ℕ → Type 0
Leads program x y = (path : List Edge) × IsPath (shape_of program) x path y

leads_on : (program : Program) (x y z : ℕ) → Leads program x y → HasEdge program y z → Leads program x z
leads_on program x y z (path, along) (edge, at, from, to) =
    (path ++ edge ∷ [], IsPath-append (shape_of program) path (edge ∷ []) x y z along (at, from, to))

-- the points to which the edges out of one lead
target_has_edge : (program : Program) → IsSound program → (x y : ℕ) → x < point_count program → Contains (map target_of (edges_from program x)) y
    → HasEdge program x y
target_has_edge program sound x y below at =
    let (edge, among, same) = Contains-in_map target_of (edges_from program x) y at in
    (edge, leaves program x edge below among, source_is program x edge (edges_from_are program sound x edge below among), sym same)

edge_has_target : (program : Program) → IsSound program → (x y : ℕ) → HasEdge program x y → Contains (map target_of (edges_from program x)) y
edge_has_target program sound x y (edge, at, from, to) =
    let (point, below, here, is) = edges_are program sound edge at in
    let same : point ≡ x = sym (source_is program point edge is) ∙ from in
    subst (Contains (map target_of (edges_from program x))) to
    (Contains-map target_of (edges_from program x) edge (subst (λ p. Contains (edges_from program p) edge) same here))

-- what is added to the work does not rest on what stands there
added : (known : List Bool) (xs : List ℕ)
    → (after : List Bool) × (more : List ℕ) × ((work : List ℕ) → fold with_known (search_of known work) xs ≡ search_of after (work ++ more))
added known [] = (known, [], λ work. ap (search_of known) (sym (append-nil work)))
added known (x ∷ xs) = by_test (get_or known x false) refl (added (slice_set known x true) xs)
  where
    by_test : (b : Bool) → get_or known x false ≡ b
        → (after : List Bool) × (more : List ℕ)
        × ((work : List ℕ) → fold with_known (search_of (slice_set known x true) work) xs ≡ search_of after (work ++ more))
        → (after : List Bool) × (more : List ℕ)
        × ((work : List ℕ) → fold with_known (search_of (slice_set known x true) (if b then work else work ++ x ∷ [])) xs
        ≡ search_of after (work ++ more))
    by_test true is rest = rest
    by_test false is (after, more, rest) = (after, x ∷ more, λ work. rest (work ++ x ∷ []) ∙ ap (search_of after) (append_assoc work (x ∷ []) more))

-- What holds all along: some path leads to all points of the work, and what is known has a backward valid path and edges to known points,
-- unless it is still to be looked at. Each known point stands in the work once, so there is room for all.
pub record Seeks (program : Program) (start next : ℕ) (search : Search) : Type 0 where
  pub count : length search.known ≡ point_count program
  pub room : remaining search ≡ point_count program
  pub passed : next ≤ length search.work
  pub inside : (x : ℕ) → Contains search.work x → x < point_count program
  pub leads : (x : ℕ) → Contains search.work x → Leads program start x
  pub begins : Knows search.known start
  pub closed : (x y : ℕ) → HasEdge program x y → Knows search.known x → Knows search.known y ⊎ Contains (drop next search.work) x
  pub finishes : (x : ℕ) → Knows search.known x → HasBackwardPath (shape_of program) x ⊎ Contains (drop next search.work) x

-- nothing is known at first
none_known : (n x : ℕ) → Knows (replicate n false) x → ⊥
none_known n x is = by_case (cases_lt x n)
  where
    by_case : (x < n) ⊎ (n ≤ x) → ⊥
    by_case (inl low) = absurd (cc (sym (get_or-replicate n x false false low) ∙ is))
    by_case (inr past) = absurd (cc (sym (get_or_past (replicate n false) x false (omega (arith, past, length-replicate n false))) ∙ is))

pub seek_begins : (program : Program) (start : ℕ) (known : List Bool) (new : Search) → start < point_count program
    → known ≡ replicate (point_count program) false → new ≡ with_known (search_of known []) start → Seeks program start 0 new
seek_begins program start known new below blank is =
    subst (Seeks program start 0) (sym (is ∙ ap (λ (k : List Bool). with_known (search_of k []) start) blank)) first
  where
    become : HaveBecomeKnown (start ∷ []) (search_of (replicate (point_count program) false) [])
        (with_known (search_of (replicate (point_count program) false) []) start)
    become = one_known (search_of (replicate (point_count program) false) []) start
        (omega (arith, below, length-replicate (point_count program) false))

    first : Seeks program start 0 (with_known (search_of (replicate (point_count program) false) []) start)
    first = record {
      count = become.count ∙ length-replicate (point_count program) false;
      room = become.remains ∙ omega (arith, sum_by-replicate one_if_not (point_count program) false);
      passed = omega arith;
      inside = λ x at. elim (become.only_work x at) [
        | inl none ↦ absurd (Contains-nil x none)
        | inr one ↦ omega (arith, Contains-one start x one, below)
      ];
      leads = λ x at. elim (become.only_work x at) [
        | inl none ↦ absurd (Contains-nil x none)
        | inr one ↦ ([], sym (Contains-one start x one))
      ];
      begins = become.made start (Contains-first start []);
      closed = λ x y edge known. elim (become.only x known) [
        | inl before ↦ absurd (none_known (point_count program) x before)
        | inr here ↦ inr here.1
      ];
      finishes = λ x known. elim (become.only x known) [
        | inl before ↦ absurd (none_known (point_count program) x before)
        | inr here ↦ inr here.1
      ];
    }

module _ (program : Program) (sound : IsSound program) (start next at : ℕ) (known : List Bool) (work : List ℕ)
    (seeks : Seeks program start next (search_of known work)) (low : next < length work) (at_is : at ≡ get_or work next 0) where
  stands : Contains work at
  stands = subst (Contains work) (sym at_is) (Contains-get_or work next 0 low)

  pub is_point : at < point_count program
  is_point = seeks.inside at stands

  here : drop next work ≡ at ∷ drop (next + 1) work
  here = drop_more work next 0 low ∙ ap (λ x. x ∷ drop (next + 1) work) (sym at_is)

  -- a point without a backward valid path is an origin
  pub origin_is : ¬ (HasBackwardPath (shape_of program) at) → IsDoubtOrigin program start at
  origin_is none = let (path, along) = seeks.leads at stands in record { below = is_point; path = path; leads = along; endless = none }

  targets_inside : All (λ x. x < length known) (map target_of (edges_from program at))
  targets_inside =
      All-map (λ x. x < length known) target_of (edges_from program at)
      (λ k d inside. omega (arith, seeks.count, targets_are_points program sound at is_point k d inside))

  module _ (finish : HasBackwardPath (shape_of program) at) (after : List Bool) (more : List ℕ)
      (adds : (begun : List ℕ) → fold with_known (search_of known begun) (map target_of (edges_from program at)) ≡ search_of after (begun ++ more)) where
    become : (begun : List ℕ) → HaveBecomeKnown (map target_of (edges_from program at)) (search_of known begun) (search_of after (begun ++ more))
    become begun =
        subst (HaveBecomeKnown (map target_of (edges_from program at)) (search_of known begun)) (adds begun)
        (all_known (search_of known begun) (map target_of (edges_from program at)) targets_inside)

    rest : drop (next + 1) (work ++ more) ≡ drop (next + 1) work ++ more
    rest = drop-append-le (next + 1) work more (omega (arith, low))

    -- what waited is the point itself, or waits
    waited : (x : ℕ) → Contains (drop next work) x → (x ≡ at) ⊎ Contains (drop (next + 1) (work ++ more)) x
    waited x waits =
        elim (Contains-cons at (drop (next + 1) work) x (subst (λ (l : List ℕ). Contains l x) here waits)) [
          | inl same ↦ inl same
          | inr later ↦ inr (subst (λ (l : List ℕ). Contains l x) (sym rest) (Contains-append_left (drop (next + 1) work) more x later))
        ]

    ahead : (x : ℕ) → Contains (drop (next + 1) work ++ more) x → Contains (drop (next + 1) (work ++ more)) x
    ahead x waits = subst (λ (l : List ℕ). Contains l x) (sym rest) waits

    closed_step : (x y : ℕ) → HasEdge program x y → Knows known x
        ⊎ (Contains (map target_of (edges_from program at)) x × Contains (drop (next + 1) work ++ more) x)
        → Knows after y ⊎ Contains (drop (next + 1) (work ++ more)) x
    closed_step x y edge (inr new) = inr (ahead x new.1)
    closed_step x y edge (inl before) =
        elim (seeks.closed x y edge before) [
          | inl done ↦ inl ((become work).kept y done)
          | inr waits ↦ elim (waited x waits) [
            | inl same ↦ inl ((become work).made y (edge_has_target program sound at y (subst (λ z. HasEdge program z y) same edge)))
            | inr later ↦ inr later
          ]
        ]

    finishes_step : (x : ℕ) → Knows known x
        ⊎ (Contains (map target_of (edges_from program at)) x × Contains (drop (next + 1) work ++ more) x)
        → HasBackwardPath (shape_of program) x ⊎ Contains (drop (next + 1) (work ++ more)) x
    finishes_step x (inr new) = inr (ahead x new.1)
    finishes_step x (inl before) =
        elim (seeks.finishes x before) [
          | inl done ↦ inl done
          | inr waits ↦ elim (waited x waits) [
            | inl same ↦ inl (subst (HasBackwardPath (shape_of program)) (sym same) finish)
            | inr later ↦ inr later
          ]
        ]

    next_to : (x : ℕ) → Contains (map target_of (edges_from program at)) x → HasEdge program at x
    next_to x among = target_has_edge program sound at x is_point among

    looked_at : Seeks program start (next + 1) (search_of after (work ++ more))
    looked_at = record {
      count = (become work).count ∙ seeks.count;
      room = (become work).remains ∙ seeks.room;
      passed = omega (arith, low, length-append work more);
      inside = λ x there. elim ((become work).only_work x there) [
        | inl before ↦ seeks.inside x before
        | inr among ↦ (let (edge, is_edge, from, to) = next_to x among in omega (arith, (edges_join_points program sound edge is_edge).target, to))
      ];
      leads = λ x there. elim ((become work).only_work x there) [
        | inl before ↦ seeks.leads x before
        | inr among ↦ leads_on program start at x (seeks.leads at stands) (next_to x among)
      ];
      begins = (become work).kept start seeks.begins;
      closed = λ x y edge is. closed_step x y edge ((become (drop (next + 1) work)).only x is);
      finishes = λ x is. finishes_step x ((become (drop (next + 1) work)).only x is);
    }

  -- the edges out of one point more are looked at
  pub seek_more : (new : Search) → HasBackwardPath (shape_of program) at
      → new ≡ fold (λ search edge. with_known search (target_of edge)) (search_of known work) (edges_from program at)
      → Seeks program start (next + 1) new
  seek_more new finish is =
      let (after, more, adds) = added known (map target_of (edges_from program at)) in
      let folded = sym (fold-map with_known target_of (search_of known work) (edges_from program at)) ∙ adds work in
      subst (Seeks program start (next + 1)) (sym (is ∙ folded)) (looked_at finish after more adds)

-- where nothing is left to be looked at, the point is not doubtful
pub seek_tells : (program : Program) (start next : ℕ) (search : Search) → Seeks program start next search → length search.work ≤ next
    → ¬ (IsDoubtful (shape_of program) start)
seek_tells program start next search seeks all (path, ahead, along, endless) =
    endless (finished ahead (seeks.finishes ahead (known_along path start ahead seeks.begins along)))
  where
    none : (x : ℕ) → Contains (drop next search.work) x → ⊥
    none x waits = Contains-nil x (subst (λ (l : List ℕ). Contains l x) (drop_all next search.work all) waits)

    finished : (x : ℕ) → HasBackwardPath (shape_of program) x ⊎ Contains (drop next search.work) x → HasBackwardPath (shape_of program) x
    finished x (inl done) = done
    finished x (inr waits) = absurd (none x waits)

    known_next : (x y : ℕ) → Knows search.known y ⊎ Contains (drop next search.work) x → Knows search.known y
    known_next x y (inl known) = known
    known_next x y (inr waits) = absurd (none x waits)

    known_along : (path : List Edge) (x y : ℕ) → Knows search.known x → IsPath (shape_of program) x path y → Knows search.known y
    known_along [] x y known same = subst (Knows search.known) same known
    known_along (edge ∷ path) x y known (at, from, rest) =
        known_along path (target_of edge) y (known_next x (target_of edge) (seeks.closed x (target_of edge) (edge, at, from, refl) known)) rest

-- a way of a search backwards is a backward valid path
pub finishes_is : (program : Program) (linked : LinkedProgram) (at : ℕ) → linked ≡ record { program = program; backward = true }
    → HasPath (directed_shape linked) at ↔ HasBackwardPath (shape_of program) at
finishes_is program linked at is =
    let (forth, back) = (meets_reverse (shape_of program) (record { gen = λ x y. false; kill = λ x y. false; boundary = false }) at).0 in
    subst (λ (l : LinkedProgram). HasPath (directed_shape l) at ↔ HasBackwardPath (shape_of program) at) (sym is) (back, forth)
