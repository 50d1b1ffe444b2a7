-- The search for all nodes to which one leads
use Rattle.std.proofs.Common.{◌≡◌, ◌⊎◌, inl, inr, ◌↔◌, ℕ, ◌<◌, ◌≤◌, Bool, true, false, List, [], ◌∷◌, ◌++◌, length, get_or, fold}
use Rattle.std.proofs.Common.{All, Contains, nat_eq, sym, ap, ◌∙◌, subst, arith, length-append, set, ap₂, if◌then◌else◌}
use Rattle.std.proofs.lemmas.Bool.{cases_lt, eqb-true}
use Rattle.std.proofs.lemmas.List.{get_or_default, get_or_past, get_or-map, length-map, map-set}
use Rattle.std.proofs.lemmas.List.Elements.{Contains-append_left, Contains-append_right, Contains-append_cases}
use Rattle.smallvec.specs.SmallVec.{SmallVec}
use Rattle.flow_graph.specs.code.NumberLists.{AreLists, contents}
use Rattle.flow_graph.specs.code.Searching.{Search, search_of, with_known}
use Rattle.flow_graph.proofs.edges.EdgeLemmas.{All-Contains}
use Rattle.flow_graph.proofs.edges.LeadingLemmas.{HaveBecomeKnown, Knows, all_known, one_known, remaining}
use Rattle.flow_graph.proofs.lists.Membership.{Contains-first, Contains-nil, Contains-one}
use Rattle.graph_components.specs.Components.{IsWalk, Joins, Leads}
use Rattle.graph_components.specs.code.Marks.{marked_by}
use Rattle.graph_components.specs.code.Targets.{AreWithin, targets_of}
use Rattle.graph_components.specs.declared.arc.Arc.{Arc}
use Rattle.graph_components.proofs.walks.Walks.{arc_leads, joins_target, leads_on, targets_join}

-- What holds all along: the start leads to what is known, each known node is listed or still to be looked at, and arcs from known nodes lead to
-- known ones, unless the node is still to be looked at.
pub record Searches (arcs : List Arc) (nodes start : ℕ) (reached : List ℕ) (search : Search) : Type 0 where
  pub count : length search.known ≡ nodes
  pub inside : (x : ℕ) → Contains search.work x → x < nodes
  pub sound : (x : ℕ) → Knows search.known x → Leads arcs start x
  pub found : (x : ℕ) → Contains search.work x → Knows search.known x
  pub kept : (x : ℕ) → Contains reached x → Knows search.known x
  pub listed : (x : ℕ) → Knows search.known x → Contains reached x ⊎ Contains search.work x
  pub begins : Knows search.known start
  pub closed : (x y : ℕ) → Joins arcs x y → Knows search.known x → Knows search.known y ⊎ Contains search.work x

-- arcs lead to nodes
pub targets_within : (arcs : List Arc) (nodes x : ℕ) → AreWithin nodes arcs → All (λ y. y < nodes) (targets_of arcs x)
targets_within arcs nodes x within k d inside = at (get_or (targets_of arcs x) k d) (k, inside, same)
  where
    same : get_or (targets_of arcs x) k (get_or (targets_of arcs x) k d) ≡ get_or (targets_of arcs x) k d
    same = get_or_default (targets_of arcs x) k _ d inside

    at : (y : ℕ) → Contains (targets_of arcs x) y → y < nodes
    at y there = (All-Contains (λ arc. (arc.from < nodes) × (arc.to < nodes)) arcs (record { from = x; to = y }) within (targets_join arcs x y there)).1

-- the arcs of one node looked at
one_looked_at : (arcs : List Arc) (nodes start : ℕ) (reached : List ℕ) (known : List Bool) (work : List ℕ) (node : ℕ) (new : Search)
    → AreWithin nodes arcs → Searches arcs nodes start reached (search_of known (work ++ node ∷ []))
    → HaveBecomeKnown (targets_of arcs node) (search_of known work) new
    → Searches arcs nodes start (reached ++ node ∷ []) new
one_looked_at arcs nodes start reached known work node new within searches become = record {
  count = become.count ∙ searches.count;
  inside = λ x at. inside_step x (become.only_work x at);
  sound = λ x is. sound_step x (become.only x is);
  found = λ x at. found_step x (become.only_work x at);
  kept = λ x at. kept_step x (Contains-append_cases reached (node ∷ []) x at);
  listed = λ x is. listed_step x (become.only x is);
  begins = become.kept start searches.begins;
  closed = λ x y joins is. closed_step x y joins (become.only x is);
}
  where
    known_here : Knows known node
    known_here = searches.found node (Contains-append_right work (node ∷ []) node (Contains-first node []))

    inside_step : (x : ℕ) → Contains work x ⊎ Contains (targets_of arcs node) x → x < nodes
    inside_step x (inl at) = searches.inside x (Contains-append_left work (node ∷ []) x at)
    inside_step x (inr at) = All-Contains (λ y. y < nodes) (targets_of arcs node) x (targets_within arcs nodes node within) at

    sound_step : (x : ℕ) → Knows known x ⊎ (Contains (targets_of arcs node) x × Contains new.work x) → Leads arcs start x
    sound_step x (inl is) = searches.sound x is
    sound_step x (inr (at, working)) =
        leads_on arcs start node x (searches.sound node known_here) (arc_leads arcs node x (targets_join arcs node x at))

    found_step : (x : ℕ) → Contains work x ⊎ Contains (targets_of arcs node) x → Knows new.known x
    found_step x (inl at) = become.kept x (searches.found x (Contains-append_left work (node ∷ []) x at))
    found_step x (inr at) = become.made x at

    kept_step : (x : ℕ) → Contains reached x ⊎ Contains (node ∷ []) x → Knows new.known x
    kept_step x (inl at) = become.kept x (searches.kept x at)
    kept_step x (inr here) = become.kept x (subst (Knows known) (sym (Contains-one node x here)) known_here)

    waited : (x : ℕ) → Contains work x ⊎ Contains (node ∷ []) x → Contains (reached ++ node ∷ []) x ⊎ Contains new.work x
    waited x (inl at) = inr (become.work x at)
    waited x (inr here) = inl (Contains-append_right reached (node ∷ []) x here)

    listed_step : (x : ℕ) → Knows known x ⊎ (Contains (targets_of arcs node) x × Contains new.work x)
        → Contains (reached ++ node ∷ []) x ⊎ Contains new.work x
    listed_step x (inr (at, working)) = inr working
    listed_step x (inl is) =
        elim (searches.listed x is) [
          | inl before ↦ inl (Contains-append_left reached (node ∷ []) x before)
          | inr at ↦ waited x (Contains-append_cases work (node ∷ []) x at)
        ]

    looked : (x y : ℕ) → Joins arcs x y → Contains work x ⊎ Contains (node ∷ []) x → Knows new.known y ⊎ Contains new.work x
    looked x y joins (inl at) = inr (become.work x at)
    looked x y joins (inr here) =
        inl (become.made y (joins_target arcs node y (subst (λ n. Joins arcs n y) (Contains-one node x here) joins)))

    closed_step : (x y : ℕ) → Joins arcs x y → Knows known x ⊎ (Contains (targets_of arcs node) x × Contains new.work x)
        → Knows new.known y ⊎ Contains new.work x
    closed_step x y joins (inr (at, working)) = inr working
    closed_step x y joins (inl is) =
        elim (searches.closed x y joins is) [
          | inl before ↦ inl (become.kept y before)
          | inr at ↦ looked x y joins (Contains-append_cases work (node ∷ []) x at)
        ]

-- what stands in the table of targets
pub reads_targets : (arcs : List Arc) (nodes : ℕ) (lists : List (SmallVec ℕ)) (node : ℕ) (list : SmallVec ℕ) (targets : List ℕ)
    → AreLists (contents lists) nodes (targets_of arcs)
    → node < nodes → list ≡ get_or lists node list → targets ≡ list.items → targets ≡ targets_of arcs node
reads_targets arcs nodes lists node list targets are below read is =
    let there : node < length lists = omega (arith, are.count, below, length-map lists (λ (list : SmallVec ℕ). list.items)) in
    is ∙ ap (λ (list : SmallVec ℕ). list.items) read ∙ sym (get_or-map (λ (list : SmallVec ℕ). list.items) lists node list [] there)
    ∙ are.each node [] below

-- the node that is looked at
pub looked_at_inside : (arcs : List Arc) (nodes start : ℕ) (reached : List ℕ) (known : List Bool) (work rest : List ℕ) (node : ℕ)
    → Searches arcs nodes start reached (search_of known work) → work ≡ rest ++ node ∷ [] → node < nodes
looked_at_inside arcs nodes start reached known work rest node searches is =
    searches.inside node (subst (λ w. Contains w node) (sym is) (Contains-append_right rest (node ∷ []) node (Contains-first node [])))

-- one step of the search
pub record StepTaken (arcs : List Arc) (nodes start : ℕ) (reached : List ℕ) (old new : Search) : Type 0 where
  pub searches : Searches arcs nodes start reached new
  pub smaller : remaining new < remaining old

pub step_taken : (arcs : List Arc) (nodes start : ℕ) (reached : List ℕ) (known : List Bool) (work rest : List ℕ) (node : ℕ) (targets : List ℕ)
    (new : Search) → AreWithin nodes arcs
    → Searches arcs nodes start reached (search_of known work) → work ≡ rest ++ node ∷ [] → targets ≡ targets_of arcs node
    → new ≡ fold with_known (search_of known rest) targets
    → StepTaken arcs nodes start (reached ++ node ∷ []) (search_of known work) new
step_taken arcs nodes start reached known work rest node targets new within searches work_is targets_are is =
    let become : HaveBecomeKnown (targets_of arcs node) (search_of known rest) (fold with_known (search_of known rest) (targets_of arcs node)) =
    all_known (search_of known rest) (targets_of arcs node)
    (λ k d inside. omega (arith, searches.count, targets_within arcs nodes node within k d inside)) in
    let same : new ≡ fold with_known (search_of known rest) (targets_of arcs node) =
    is ∙ ap (λ xs. fold with_known (search_of known rest) xs) targets_are in
    let become_new : HaveBecomeKnown (targets_of arcs node) (search_of known rest) new =
    subst (HaveBecomeKnown (targets_of arcs node) (search_of known rest)) (sym same) become in
    let before : Searches arcs nodes start reached (search_of known (rest ++ node ∷ [])) =
    subst (λ w. Searches arcs nodes start reached (search_of known w)) work_is searches in
    record {
      searches = one_looked_at arcs nodes start reached known rest node new within before become_new;
      smaller = omega (arith, become_new.remains, ap length work_is, length-append rest (node ∷ []));
    }

-- no node has the mark of this search
pub none_marked : (stamp : ℕ) (marks : List ℕ) → All (λ mark. mark < stamp) marks → (x : ℕ) → Knows (marked_by stamp marks) x → ⊥
none_marked stamp marks fresh x is = by_case (cases_lt x (length marks))
  where
    by_case : (x < length marks) ⊎ (length marks ≤ x) → ⊥
    by_case (inl low) =
        let test : nat_eq (get_or marks x 0) stamp ≡ true = sym (get_or-map (λ mark. nat_eq mark stamp) marks x 0 false low) ∙ is in
        let same : get_or marks x 0 ≡ stamp = eqb-true (get_or marks x 0) stamp test in
        absurd (omega (arith, same, fresh x 0 low))
    by_case (inr past) =
        let none : get_or (marked_by stamp marks) x false ≡ false =
        get_or_past (marked_by stamp marks) x false (omega (arith, past, length-map marks (λ mark. nat_eq mark stamp))) in
        absurd (cc (sym none ∙ is))

-- the search begins at its start
pub search_begins : (arcs : List Arc) (nodes start stamp : ℕ) (marks : List ℕ) (new : Search) → length marks ≡ nodes → start < nodes
    → All (λ mark. mark < stamp) marks → new ≡ with_known (search_of (marked_by stamp marks) []) start
    → Searches arcs nodes start [] new
search_begins arcs nodes start stamp marks new count low fresh is = subst (Searches arcs nodes start []) (sym is) first
  where
    as_many : length (marked_by stamp marks) ≡ nodes
    as_many = length-map marks (λ mark. nat_eq mark stamp) ∙ count

    begun : Search
    begun = with_known (search_of (marked_by stamp marks) []) start

    become : HaveBecomeKnown (start ∷ []) (search_of (marked_by stamp marks) []) (with_known (search_of (marked_by stamp marks) []) start)
    become = one_known (search_of (marked_by stamp marks) []) start (omega (arith, low, as_many))

    first : Searches arcs nodes start [] (with_known (search_of (marked_by stamp marks) []) start)
    first = record {
      count = become.count ∙ as_many;
      inside = λ x at. elim (become.only_work x at) [
        | inl none ↦ absurd (Contains-nil x none)
        | inr one ↦ omega (arith, Contains-one start x one, low)
      ];
      sound = λ x is. elim (become.only x is) [
        | inl before ↦ absurd (none_marked stamp marks fresh x before)
        | inr here ↦ ([], sym (Contains-one start x here.0))
      ];
      found = λ x at. elim (become.only_work x at) [
        | inl none ↦ absurd (Contains-nil x none)
        | inr one ↦ become.made x one
      ];
      kept = λ x at. absurd (Contains-nil x at);
      listed = λ x is. elim (become.only x is) [
        | inl before ↦ absurd (none_marked stamp marks fresh x before)
        | inr here ↦ inr here.1
      ];
      begins = become.made start (Contains-first start []);
      closed = λ x y joins is. elim (become.only x is) [
        | inl before ↦ absurd (none_marked stamp marks fresh x before)
        | inr here ↦ inr here.1
      ];
    }

-- where nothing is left to be looked at, all that a known node leads to is known
complete : (arcs : List Arc) (nodes start : ℕ) (reached : List ℕ) (known : List Bool) → Searches arcs nodes start reached (search_of known [])
    → (others : List ℕ) (x y : ℕ) → IsWalk arcs x others y → Knows known x → Knows known y
complete arcs nodes start reached known searches [] x y same is = subst (Knows known) same is
complete arcs nodes start reached known searches (n ∷ others) x y (joins, rest) is =
    elim (searches.closed x n joins is) [
      | inl done ↦ complete arcs nodes start reached known searches others n y rest done
      | inr none ↦ absurd (Contains-nil x none)
    ]

-- what is found at last
pub record Tells (arcs : List Arc) (start : ℕ) (reached : List ℕ) (known : List Bool) : Type 0 where
  pub known_leads : (x : ℕ) → Knows known x ↔ Leads arcs start x
  pub reached_leads : (x : ℕ) → Contains reached x ↔ Leads arcs start x

pub search_tells : (arcs : List Arc) (nodes start : ℕ) (reached : List ℕ) (known : List Bool) (work : List ℕ)
    → Searches arcs nodes start reached (search_of known work) → work ≡ [] → Tells arcs start reached known
search_tells arcs nodes start reached known work searches none =
    let done : Searches arcs nodes start reached (search_of known []) =
    subst (λ w. Searches arcs nodes start reached (search_of known w)) none searches in
    record {
      known_leads = λ x. (λ is. done.sound x is, λ leads. complete arcs nodes start reached known done leads.0 start x leads.1 done.begins);
      reached_leads = λ x. (
        λ at. done.sound x (done.kept x at),
        λ leads.
            elim (done.listed x (complete arcs nodes start reached known done leads.0 start x leads.1 done.begins)) [
              | inl at ↦ at
              | inr none ↦ absurd (Contains-nil x none)
            ],
      );
    }

-- a node is known where it has the mark of the search
pub known_is_marked : (stamp : ℕ) (marks : List ℕ) (x : ℕ) → 0 < stamp → Knows (marked_by stamp marks) x ↔ (get_or marks x 0 ≡ stamp)
known_is_marked stamp marks x some = by_case (cases_lt x (length marks))
  where
    by_case : (x < length marks) ⊎ (length marks ≤ x) → Knows (marked_by stamp marks) x ↔ (get_or marks x 0 ≡ stamp)
    by_case (inl low) =
        let read : get_or (marked_by stamp marks) x false ≡ nat_eq (get_or marks x 0) stamp = get_or-map (λ mark. nat_eq mark stamp) marks x 0 false low in
        (λ is. eqb-true (get_or marks x 0) stamp (sym read ∙ is), λ same. read ∙ (let test : nat_eq (get_or marks x 0) stamp ≡ true = grind arith in test))
    by_case (inr past) =
        let none : get_or (marked_by stamp marks) x false ≡ false =
        get_or_past (marked_by stamp marks) x false (omega (arith, past, length-map marks (λ mark. nat_eq mark stamp))) in
        let zero_there : get_or marks x 0 ≡ 0 = get_or_past marks x 0 past in
        (λ is. absurd (cc (sym none ∙ is)), λ same. absurd (omega (arith, zero_there, same, some)))

-- a node more is marked
pub marks_more : (stamp : ℕ) (marks : List ℕ) (node : ℕ) (work new : List ℕ) → node < length marks → nat_eq (get_or marks node 0) stamp ≡ false
    → new ≡ work ++ node ∷ []
    → search_of (marked_by stamp (set marks node stamp)) new ≡ with_known (search_of (marked_by stamp marks) work) node
marks_more stamp marks node work new inside other is =
    let itself : nat_eq stamp stamp ≡ true = grind arith in
    let known : marked_by stamp (set marks node stamp) ≡ set (marked_by stamp marks) node true =
    map-set (λ mark. nat_eq mark stamp) marks node stamp ∙ ap (λ b. set (marked_by stamp marks) node b) itself in
    let unknown : get_or (marked_by stamp marks) node false ≡ false = get_or-map (λ mark. nat_eq mark stamp) marks node 0 false inside ∙ other in
    ap₂ search_of known (is ∙ ap (λ b. if b then work else work ++ node ∷ []) (sym unknown))

-- what a node leads to is a node
pub leads_within : (arcs : List Arc) (nodes : ℕ) → AreWithin nodes arcs → (others : List ℕ) (x y : ℕ) → x < nodes → IsWalk arcs x others y → y < nodes
leads_within arcs nodes within [] x y low same = omega (arith, low, same)
leads_within arcs nodes within (n ∷ others) x y low (joins, rest) =
    leads_within arcs nodes within others n y
    ((All-Contains (λ arc. (arc.from < nodes) × (arc.to < nodes)) arcs (record { from = x; to = n }) within joins).1) rest
