-- What the facts tell on both sides of a statement, from the meets over all valid paths
use Rattle.std.proofs.Common.{◌≡◌, ◌∙◌, ◌↔◌, ℕ, suc, ◌-◌, ◌<◌, Bool, true, false, not, ◌&&◌, ◌||◌, inl, inr, List, [], ◌∷◌, ◌++◌}
use Rattle.std.proofs.Common.{Option, Some, None, IsSome, option_and_then, option_map, unwrap_or, nat_eq, Contains, refl, sym, ap, subst, arith}
use Rattle.std.specs.List.{list_all, list_any}
use Rattle.tac_program.specs.Programs.{Program}
use Rattle.tac_program.specs.Sound.{IsSound}
use Rattle.tac_program.specs.declared.program.StmtKind.{StmtKind}
use Rattle.tac_program.specs.declared.program.StmtKind.TheVariants as kind
use Rattle.std.proofs.lemmas.Bool.{and_parts}
use Rattle.flow_graph.proofs.edges.EdgeLemmas.{IsFrom, a_call, a_return, a_step, edges_from_are}
use Rattle.flow_graph.proofs.lists.Membership.{Contains-cons, Contains-first, Contains-flat_map, Contains-later, Contains-nil, Contains-one}
use Rattle.flow_graph.proofs.lists.Membership.{Contains-range}
use Rattle.flow_graph.specs.Analyses.{main_procedure, shape_of, transfer_of}
use Rattle.flow_graph.specs.Edges.{callees_named, calls, edges, edges_from, edges_of, returns_of}
use Rattle.flow_graph.specs.Paths.{EveryBackwardPathHas, EveryPathHas, HasBackwardPath, HasPath, IsBackwardValidPath, IsEdge, IsPath}
use Rattle.flow_graph.specs.declared.edge.Edge.{Edge}
use Rattle.flow_graph.specs.declared.edge.Edge.TheVariants.{Step}
use Rattle.flow_graph.specs.Paths.{IsValidPath, Shape, SomeBackwardPathHas, SomePathHas, Transfer, open_sites_after, open_sites_before}
use Rattle.flow_graph.specs.Paths.{source_of, target_of}
use Rattle.flow_graph.specs.Paths.{value_after, value_before}
use Rattle.flow_graph.specs.Points.{entry_point, kind_at, place_of, point_count, points, procedure_at}
use Rattle.flow_graph.specs.Transfers.{gens, kills}
use Rattle.flow_graph.specs.declared.analysis.Analysis.{Analysis}
use Rattle.flow_graph.proofs.graphs.GraphLaws.{edges_join_points, graphs_are_well_formed}
use Rattle.flow_graph.proofs.paths.PathLemmas.{IsPath-append, open_sites_after-append, value_after-append}
use Rattle.point_sets.specs.Sets.{has_behind, is_call, passes}
use Rattle.block_dots.specs.Blocks.{goes_on, goes_on_block, is_leader, is_plain}
use Rattle.block_dots.proofs.control.Leaders.{edge_leads, entry_leads, none_at_end}

-- a plain statement has one edge
pub plain_edges : (program : Program) (point : ℕ) → goes_on program point ≡ true → edges_from program point ≡ Step point (suc point) ∷ []
plain_edges program point is = by_kind (kind_at program point) is
  where
    of_kind : (k : StmtKind) → is_plain k ≡ true → edges_of program point k ≡ Step point (suc point) ∷ []
    of_kind (kind.Copy x y) is = refl
    of_kind (kind.Unary x op y) is = refl
    of_kind (kind.Binary op x y z) is = refl
    of_kind (kind.Goto label) is = absurd (cc is)
    of_kind (kind.If y label) is = absurd (cc is)
    of_kind (kind.IfFalse y label) is = absurd (cc is)
    of_kind (kind.IfCompare op label y z) is = absurd (cc is)
    of_kind (kind.Call callees) is = absurd (cc is)
    of_kind kind.Return is = absurd (cc is)
    of_kind (kind.Read x) is = refl
    of_kind (kind.Print y) is = refl
    of_kind kind.Skip is = refl

    by_kind : (o : Option StmtKind) → unwrap_or (option_map is_plain o) false ≡ true
        → elim o [ Some k ↦ edges_of program point k | None ↦ returns_of program (procedure_at program point) ] ≡ Step point (suc point) ∷ []
    by_kind (Some k) is = of_kind k is
    by_kind None is = absurd (cc is)

pub listed_there : (program : Program) (point : ℕ) (edge : Edge) → point < point_count program → Contains (edges_from program point) edge
    → Contains (edges program) edge
listed_there program point edge below among =
    Contains-flat_map (edges_from program) (points program) point edge
    (Contains-range 0 (point_count program) point (omega arith) (omega (arith, below))) among

step_there : (program : Program) (point : ℕ) → suc point < point_count program → goes_on program point ≡ true
    → Contains (edges program) (Step point (suc point))
step_there program point below is =
    listed_there program point (Step point (suc point)) (omega (arith, below))
    (subst (λ (es : List Edge). Contains es (Step point (suc point))) (sym (plain_edges program point is))
    (Contains-first (Step point (suc point)) []))

-- a point that goes on a block stands behind a plain statement
pub goes_on_before : (program : Program) (point : ℕ) → is_leader program (suc point) ≡ false → goes_on program point ≡ true
goes_on_before program point follows =
    let back : suc point - 1 ≡ point = omega arith in
    let goes = not_false (goes_on_block program (suc point)) follows in
    let rest = (and_parts (not (nat_eq (place_of program (suc point)).place 0)) _ goes).1 in
    sym (ap (goes_on program) back) ∙ (and_parts (goes_on program (suc point - 1)) _ rest).0
  where
    not_false : (b : Bool) → not b ≡ false → b ≡ true
    not_false true is = refl
    not_false false is = absurd (cc is)

-- a statement that is no call calls nothing
no_callee : (k : StmtKind) (callee : ℕ) → not (is_call k) ≡ true → list_any (nat_eq callee) (callees_named k) ≡ true → ⊥
no_callee (kind.Copy x y) callee own is = cc is
no_callee (kind.Unary x op y) callee own is = cc is
no_callee (kind.Binary op x y z) callee own is = cc is
no_callee (kind.Goto label) callee own is = cc is
no_callee (kind.If y label) callee own is = cc is
no_callee (kind.IfFalse y label) callee own is = cc is
no_callee (kind.IfCompare op label y z) callee own is = cc is
no_callee (kind.Call callees) callee own is = cc own
no_callee kind.Return callee own is = cc is
no_callee (kind.Read x) callee own is = cc is
no_callee (kind.Print y) callee own is = cc is
no_callee kind.Skip callee own is = cc is

calls_nothing : (program : Program) (point callee : ℕ) → has_behind program point ≡ true → calls program point callee ≡ true → ⊥
calls_nothing program point callee own is = by_kind (kind_at program point) own is
  where
    by_kind : (o : Option StmtKind) → unwrap_or (option_map (λ k. not (is_call k)) o) false ≡ true
        → list_any (nat_eq callee) (unwrap_or (option_map callees_named o) []) ≡ true → ⊥
    by_kind (Some k) own is = no_callee k callee own is
    by_kind None own is = cc own

-- the last edge of a path
record Last (shape : Shape) (x : ℕ) (path : List Edge) (y : ℕ) : Type 0 where
  front : List Edge
  edge : Edge
  is : path ≡ front ++ edge ∷ []
  leads : IsPath shape x front (source_of edge)
  among : IsEdge shape edge
  ends : target_of edge ≡ y

last_edge : (shape : Shape) (x : ℕ) (edge : Edge) (path : List Edge) (y : ℕ) → IsPath shape x (edge ∷ path) y → Last shape x (edge ∷ path) y
last_edge shape x edge [] y is = record {
  front = [];
  edge = edge;
  is = refl;
  leads = sym is.1;
  among = is.0;
  ends = is.2;
}
last_edge shape x edge (next ∷ path) y is =
    let rest = last_edge shape (target_of edge) next path y is.2 in
    record {
      front = edge ∷ rest.front;
      edge = rest.edge;
      is = ap (λ p. edge ∷ p) rest.is;
      leads = (is.0, is.1, rest.leads);
      among = rest.among;
      ends = rest.ends;
    }

-- two tests that tell the same
same_tests : (a b : Bool) → (a ≡ true → b ≡ true) → (b ≡ true → a ≡ true) → a ≡ b
same_tests true true there back = refl
same_tests true false there back = sym (there refl)
same_tests false true there back = back refl
same_tests false false there back = refl

-- gen ∪ (X − kill), told by cases
data Passing (gen kill value : Bool) : Type 0 where
  generated : gen ≡ true → Passing gen kill value
  kept : value ≡ true → kill ≡ false → Passing gen kill value

passing : (gen kill value : Bool) → (gen || (value && not kill)) ≡ true → Passing gen kill value
passing true kill value is = generated refl
passing false false true is = kept refl refl
passing false true true is = absurd (cc is)
passing false true false is = absurd (cc is)
passing false false false is = absurd (cc is)

-- what passes and is not generated was there
not_generated : (gen kill value : Bool) → gen ≡ false → (gen || (value && not kill)) ≡ true → value ≡ true
not_generated true kill value none is = absurd (cc none)
not_generated false kill true none is = refl
not_generated false true false none is = absurd (cc is)
not_generated false false false none is = absurd (cc is)

passed_by : (gen kill value : Bool) → Passing gen kill value → (gen || (value && not kill)) ≡ true
passed_by gen kill value (generated is) = ap (λ (g : Bool). g || (value && not kill)) is
passed_by true kill value (kept is none) = refl
passed_by false kill value (kept is none) =
    ap (λ (v : Bool). v && not kill) is ∙ ap not none

-- whether some edge passes, and whether each does
any_holds : (f : Edge → Bool) (es : List Edge) (e : Edge) → Contains es e → f e ≡ true → list_any f es ≡ true
any_holds f [] e among is = absurd (Contains-nil e among)
any_holds f (x ∷ xs) e among is =
    elim (Contains-cons x xs e among) [
      | inl same ↦ ap (λ (b : Bool). b || list_any f xs) (sym (ap f same) ∙ is)
      | inr later ↦ or_later (f x) (any_holds f xs e later is)
    ]
  where
    or_later : (b : Bool) → list_any f xs ≡ true → (b || list_any f xs) ≡ true
    or_later true rest = refl
    or_later false rest = rest

any_found : (f : Edge → Bool) (es : List Edge) → list_any f es ≡ true → (e : Edge) × Contains es e × (f e ≡ true)
any_found f [] is = absurd (cc is)
any_found f (x ∷ xs) is = by_test (f x) refl (any_found f xs) is
  where
    by_test : (b : Bool) → f x ≡ b → (list_any f xs ≡ true → (e : Edge) × Contains xs e × (f e ≡ true)) → (b || list_any f xs) ≡ true
        → (e : Edge) × Contains (x ∷ xs) e × (f e ≡ true)
    by_test true here rest or = (x, Contains-first x xs, here)
    by_test false here rest or = let (e, among, holds) = rest or in (e, Contains-later x xs e among, holds)

all_hold : (f : Edge → Bool) (es : List Edge) → ((e : Edge) → Contains es e → f e ≡ true) → list_all f es ≡ true
all_hold f [] each = refl
all_hold f (x ∷ xs) each =
    ap (λ (b : Bool). b && list_all f xs) (each x (Contains-first x xs)) ∙ all_hold f xs (λ e among. each e (Contains-later x xs e among))

each_holds : (f : Edge → Bool) (es : List Edge) (e : Edge) → list_all f es ≡ true → Contains es e → f e ≡ true
each_holds f [] e is among = absurd (Contains-nil e among)
each_holds f (x ∷ xs) e is among =
    let both = and_parts (f x) (list_all f xs) is in
    elim (Contains-cons x xs e among) [
      | inl same ↦ ap f same ∙ both.0
      | inr later ↦ each_holds f xs e both.1 later
    ]

-- a step opens and closes no site
sites_stay : (sites : Option (List ℕ)) → IsSome (option_and_then (λ (s : List ℕ). Some s) sites) → IsSome sites
sites_stay (Some list) is = is
sites_stay None is = is

sites_stayed : (sites : Option (List ℕ)) → IsSome sites → IsSome (option_and_then (λ (s : List ℕ). Some s) sites)
sites_stayed (Some list) is = is
sites_stayed None is = is

module _ (program : Program) (sound : IsSound program) where
  abbrev shape : Shape
  shape = shape_of program

  -- ---- forwards: a point that goes on the block of the point before it

  module _ (point : ℕ) (below : suc point < point_count program) (follows : is_leader program (suc point) ≡ false) where
    only_step : (edge : Edge) → IsEdge shape edge → target_of edge ≡ suc point → edge ≡ Step point (suc point)
    only_step edge among ends =
        let placed = edges_join_points program sound edge among in
        elim (edge_leads program sound (source_of edge) placed.source edge placed.listed) [
          | inl leads ↦ absurd (cc (sym leads ∙ ap (is_leader program) ends ∙ follows))
          | inr step ↦
              let same : source_of edge ≡ point = omega (arith, ap target_of step.1, ends) in
              step.1 ∙ ap (λ (n : ℕ). Step n (suc n)) same
        ]

    -- a valid path to it comes from there
    before : (path : List Edge) → IsValidPath shape path (suc point)
        → (front : List Edge) × (path ≡ front ++ Step point (suc point) ∷ []) × IsValidPath shape front point
    before [] valid =
        let begins : is_leader program (entry_point program (main_procedure program)) ≡ true =
        entry_leads program (main_procedure program) (graphs_are_well_formed program sound).root_in_range in
        absurd (cc (sym begins ∙ ap (is_leader program) valid.0 ∙ follows))
    before (edge ∷ path) valid =
        let last = last_edge shape (entry_point program (main_procedure program)) edge path (suc point) valid.0 in
        let step = only_step last.edge last.among last.ends in
        let is : edge ∷ path ≡ last.front ++ Step point (suc point) ∷ [] = last.is ∙ ap (λ (e : Edge). last.front ++ e ∷ []) step in
        let sites : IsSome (open_sites_after (last.front ++ Step point (suc point) ∷ []) (Some [])) =
        subst (λ (p : List Edge). IsSome (open_sites_after p (Some []))) is valid.1 in (
          last.front,
          is,
          (
            subst (λ (n : ℕ). IsPath shape (entry_point program (main_procedure program)) last.front n) (ap source_of step) last.leads,
            sites_stay (open_sites_after last.front (Some []))
                (subst IsSome (open_sites_after-append last.front (Step point (suc point) ∷ []) (Some [])) sites),
          ),
        )

    there_is : IsEdge shape (Step point (suc point))
    there_is = step_there program point below (goes_on_before program point follows)

    behind : (front : List Edge) → IsValidPath shape front point → IsValidPath shape (front ++ Step point (suc point) ∷ []) (suc point)
    behind front valid = (
      IsPath-append shape front (Step point (suc point) ∷ []) (entry_point program (main_procedure program)) point (suc point) valid.0
          (there_is, refl, refl),
      subst IsSome (sym (open_sites_after-append front (Step point (suc point) ∷ []) (Some [])))
          (sites_stayed (open_sites_after front (Some [])) valid.1),
    )

    pub path_on : HasPath shape point → HasPath shape (suc point)
    path_on path = (path.0 ++ Step point (suc point) ∷ [], behind path.0 path.1)

    module _ (analysis : Analysis) (bit : ℕ) (path_there : HasPath shape point) (a b : Bool) where
      abbrev transfer : Transfer
      transfer = transfer_of program analysis bit

      abbrev value : List Edge → Bool
      value path = value_after transfer path transfer.boundary

      valued : (front : List Edge) → value (front ++ Step point (suc point) ∷ []) ≡ passes program analysis point bit (value front)
      valued front = value_after-append transfer front (Step point (suc point) ∷ []) transfer.boundary

      pub some_forward : (a ≡ true) ↔ SomePathHas shape transfer point → (b ≡ true) ↔ SomePathHas shape transfer (suc point)
          → b ≡ passes program analysis point bit a
      some_forward here next = same_tests b (passes program analysis point bit a)
          (λ is.
          let (path, valid, holds) = next.0 is in
          let (front, same, before_it) = before path valid in
          elim (passing (gens program analysis point bit) (kills program analysis point bit) (value front)
          (sym (valued front) ∙ sym (ap value same) ∙ holds)) [
            | generated gen ↦ passed_by (gens program analysis point bit) (kills program analysis point bit) a (generated gen)
            | kept held stays ↦
                passed_by (gens program analysis point bit) (kills program analysis point bit) a (kept (here.1 (front, before_it, held)) stays)
          ])
          (λ is.
          elim (passing (gens program analysis point bit) (kills program analysis point bit) a is) [
            | generated gen ↦
                next.1 (
                  path_there.0 ++ Step point (suc point) ∷ [],
                  behind path_there.0 path_there.1,
                  valued path_there.0
                      ∙ passed_by (gens program analysis point bit) (kills program analysis point bit) (value path_there.0) (generated gen),
                )
            | kept held stays ↦
                let (front, valid, holds) = here.0 held in
                next.1 (
                  front ++ Step point (suc point) ∷ [],
                  behind front valid,
                  valued front
                      ∙ passed_by (gens program analysis point bit) (kills program analysis point bit) (value front) (kept holds stays),
                )
          ])

      -- of a path there, what is not generated is kept
      pub every_forward : (a ≡ true) ↔ EveryPathHas shape transfer point → (b ≡ true) ↔ EveryPathHas shape transfer (suc point)
          → b ≡ passes program analysis point bit a
      every_forward here next = same_tests b (passes program analysis point bit a)
          (λ is.
          let each : (front : List Edge) → IsValidPath shape front point → passes program analysis point bit (value front) ≡ true =
          (λ front valid. sym (valued front) ∙ next.0 is (front ++ Step point (suc point) ∷ []) (behind front valid)) in
          let one = passing (gens program analysis point bit) (kills program analysis point bit) (value path_there.0)
          (each path_there.0 path_there.1) in
          elim one [
            | generated gen ↦ passed_by (gens program analysis point bit) (kills program analysis point bit) a (generated gen)
            | kept held stays ↦
                by_gen (gens program analysis point bit) refl
                (λ none. here.1 (λ front valid.
                not_generated (gens program analysis point bit) (kills program analysis point bit) (value front) none (each front valid))) stays
          ])
          (λ is. next.1 (λ path valid.
          let (front, same, before_it) = before path valid in
          ap value same ∙ valued front
          ∙ elim (passing (gens program analysis point bit) (kills program analysis point bit) a is) [
            | generated gen ↦ passed_by (gens program analysis point bit) (kills program analysis point bit) (value front) (generated gen)
            | kept held stays ↦
                passed_by (gens program analysis point bit) (kills program analysis point bit) (value front)
                (kept (here.0 held front before_it) stays)
          ]))
        where
          by_gen : (g : Bool) → gens program analysis point bit ≡ g → (gens program analysis point bit ≡ false → a ≡ true)
              → kills program analysis point bit ≡ false → passes program analysis point bit a ≡ true
          by_gen true gen holds stays = passed_by (gens program analysis point bit) (kills program analysis point bit) a (generated gen)
          by_gen false gen holds stays = passed_by (gens program analysis point bit) (kills program analysis point bit) a (kept (holds gen) stays)

  -- ---- backwards: a statement that is no call

  module _ (point : ℕ) (below : point < point_count program) (own : has_behind program point ≡ true) where
    -- control goes from it by steps
    step_out : (edge : Edge) → Contains (edges_from program point) edge → edge ≡ Step point (target_of edge)
    step_out edge among = by_form edge (edges_from_are program sound point edge below among)
      where
        by_form : (e : Edge) → IsFrom program point e → e ≡ Step point (target_of e)
        by_form _ (a_step target inside) = refl
        by_form _ (a_call callee there calling) = absurd (calls_nothing program point callee own calling)
        by_form _ (a_return site there calling none ends) = absurd (cc
            (sym own ∙ ap (λ (o : Option StmtKind). unwrap_or (option_map (λ k. not (is_call k)) o) false) none))

    -- a valid path from it begins with one
    beyond : (path : List Edge) → IsBackwardValidPath shape path point
        → (edge : Edge) × (rest : List Edge) × (path ≡ edge ∷ rest) × Contains (edges_from program point) edge × IsBackwardValidPath shape rest
        (target_of edge)
    beyond [] valid =
        let none : kind_at program point ≡ None =
        ap (kind_at program) valid.0 ∙ none_at_end program (main_procedure program) (graphs_are_well_formed program sound).root_in_range in
        absurd (cc (sym own ∙ ap (λ (o : Option StmtKind). unwrap_or (option_map (λ k. not (is_call k)) o) false) none))
    beyond (edge ∷ rest) valid =
        let placed = edges_join_points program sound edge valid.0.0 in
        let listed : Contains (edges_from program point) edge =
        subst (λ (n : ℕ). Contains (edges_from program n) edge) valid.0.1 placed.listed in
        let sites : IsSome (open_sites_before (Step point (target_of edge) ∷ rest) (Some [])) =
        subst (λ (e : Edge). IsSome (open_sites_before (e ∷ rest) (Some []))) (step_out edge listed) valid.1 in
        (edge, rest, refl, listed, (valid.0.2, sites_stay (open_sites_before rest (Some [])) sites))

    ahead : (edge : Edge) (rest : List Edge) → Contains (edges_from program point) edge → IsBackwardValidPath shape rest (target_of edge)
        → IsBackwardValidPath shape (edge ∷ rest) point
    ahead edge rest among valid = (
      (listed_there program point edge below among, ap source_of (step_out edge among), valid.0),
      subst (λ (e : Edge). IsSome (open_sites_before (e ∷ rest) (Some []))) (sym (step_out edge among))
          (sites_stayed (open_sites_before rest (Some [])) valid.1),
    )

    pub path_beyond : goes_on program point ≡ true → HasBackwardPath shape point → HasBackwardPath shape (suc point)
    path_beyond plain path =
        let (edge, rest, same, among, further) = beyond path.0 path.1 in
        let one : edge ≡ Step point (suc point) =
        Contains-one (Step point (suc point)) edge (subst (λ (es : List Edge). Contains es edge) (plain_edges program point plain) among) in
        (rest, subst (λ (e : Edge). IsBackwardValidPath shape rest (target_of e)) one further)

    module _ (analysis : Analysis) (bit : ℕ) (path_there : HasBackwardPath shape point) (contains : ℕ → Bool) where
      abbrev transfer_up : Transfer
      transfer_up = transfer_of program analysis bit

      abbrev value_up : List Edge → Bool
      value_up path = value_before transfer_up path transfer_up.boundary

      abbrev held_at : Edge → Bool
      held_at edge = contains (target_of edge)

      valued_up : (edge : Edge) (rest : List Edge) → Contains (edges_from program point) edge
          → value_up (edge ∷ rest) ≡ passes program analysis point bit (value_up rest)
      valued_up edge rest among = ap (λ (e : Edge). value_up (e ∷ rest)) (step_out edge among)

      pub some_backward : (contains point ≡ true) ↔ SomeBackwardPathHas shape transfer_up point
          → ((edge : Edge) → Contains (edges_from program point) edge
          → (held_at edge ≡ true) ↔ SomeBackwardPathHas shape transfer_up (target_of edge))
          → contains point ≡ passes program analysis point bit (list_any held_at (edges_from program point))
      some_backward here next = same_tests (contains point) (passes program analysis point bit (list_any held_at (edges_from program point)))
          (λ is.
          let (path, valid, holds) = here.0 is in
          let (edge, rest, same, among, further) = beyond path valid in
          elim (passing (gens program analysis point bit) (kills program analysis point bit) (value_up rest)
          (sym (valued_up edge rest among) ∙ sym (ap value_up same) ∙ holds)) [
            | generated gen ↦ passed_by (gens program analysis point bit) (kills program analysis point bit) _ (generated gen)
            | kept held stays ↦
                passed_by (gens program analysis point bit) (kills program analysis point bit) _
                (kept (any_holds held_at (edges_from program point) edge among ((next edge among).1 (rest, further, held))) stays)
          ])
          (λ is.
          elim (passing (gens program analysis point bit) (kills program analysis point bit) (list_any held_at (edges_from program point)) is) [
            | generated gen ↦
                let (edge, rest, same, among, further) = beyond path_there.0 path_there.1 in
                here.1 (
                  edge ∷ rest,
                  ahead edge rest among further,
                  valued_up edge rest among
                      ∙ passed_by (gens program analysis point bit) (kills program analysis point bit) (value_up rest) (generated gen),
                )
            | kept held stays ↦
                let (edge, among, holds) = any_found held_at (edges_from program point) held in
                let (rest, further, has) = (next edge among).0 holds in
                here.1 (
                  edge ∷ rest,
                  ahead edge rest among further,
                  valued_up edge rest among
                      ∙ passed_by (gens program analysis point bit) (kills program analysis point bit) (value_up rest) (kept has stays),
                )
          ])

      pub every_backward : (contains point ≡ true) ↔ EveryBackwardPathHas shape transfer_up point
          → ((edge : Edge) → Contains (edges_from program point) edge
          → (held_at edge ≡ true) ↔ EveryBackwardPathHas shape transfer_up (target_of edge))
          → contains point ≡ passes program analysis point bit (list_all held_at (edges_from program point))
      every_backward here next = same_tests (contains point) (passes program analysis point bit (list_all held_at (edges_from program point)))
          (λ is.
          let each : (edge : Edge) (rest : List Edge) → Contains (edges_from program point) edge → IsBackwardValidPath shape rest (target_of edge)
          → passes program analysis point bit (value_up rest) ≡ true =
          (λ edge rest among further. sym (valued_up edge rest among) ∙ here.0 is (edge ∷ rest) (ahead edge rest among further)) in
          let (edge, rest, same, among, further) = beyond path_there.0 path_there.1 in
          elim (passing (gens program analysis point bit) (kills program analysis point bit) (value_up rest) (each edge rest among further)) [
            | generated gen ↦ passed_by (gens program analysis point bit) (kills program analysis point bit) _ (generated gen)
            | kept held stays ↦
                by_gen (gens program analysis point bit) refl
                (λ none. all_hold held_at (edges_from program point)
                (λ e leads. (next e leads).1 (λ r on.
                not_generated (gens program analysis point bit) (kills program analysis point bit) (value_up r) none (each e r leads on)))) stays
          ])
          (λ is. here.1 (λ path valid.
          let (edge, rest, same, among, further) = beyond path valid in
          ap value_up same ∙ valued_up edge rest among
          ∙ elim (passing (gens program analysis point bit) (kills program analysis point bit) (list_all held_at (edges_from program point)) is) [
            | generated gen ↦ passed_by (gens program analysis point bit) (kills program analysis point bit) (value_up rest) (generated gen)
            | kept held stays ↦
                passed_by (gens program analysis point bit) (kills program analysis point bit) (value_up rest)
                (kept ((next edge among).0 (each_holds held_at (edges_from program point) edge held among) rest further) stays)
          ]))
        where
          by_gen : (g : Bool) → gens program analysis point bit ≡ g
              → (gens program analysis point bit ≡ false → list_all held_at (edges_from program point) ≡ true)
              → kills program analysis point bit ≡ false
              → passes program analysis point bit (list_all held_at (edges_from program point)) ≡ true
          by_gen true gen holds stays = passed_by (gens program analysis point bit) (kills program analysis point bit) _ (generated gen)
          by_gen false gen holds stays = passed_by (gens program analysis point bit) (kills program analysis point bit) _ (kept (holds gen) stays)
