-- The calls of a program, and where their procedures and points lie
use Rattle.std.proofs.Common.{◌≡◌, ◌⊎◌, inl, inr, ℕ, suc, ◌+◌, ◌-◌, ◌<◌, ◌≤◌, Bool, true, false, List, [], ◌∷◌, ◌++◌, flat_map, fold, length, get_or}
use Rattle.std.proofs.Common.{All, Contains, nat_eq, if◌then◌else◌, sym, ap, ◌∙◌, subst, arith, append-nil}
use Rattle.std.specs.List.{list_any, range_with_len}
use Rattle.std.proofs.lemmas.Grind.{flat_map-append}
use Rattle.std.proofs.lemmas.List.{get_or_default}
use Rattle.std.proofs.lemmas.List.Elements.{Contains-append_cases}
use Rattle.flow_graph.specs.Edges.{callees_at}
use Rattle.flow_graph.specs.Points.{end_place, entry_point, point_count, points, procedure_at}
use Rattle.flow_graph.proofs.edges.EdgeLemmas.{All-Contains}
use Rattle.flow_graph.proofs.edges.SiteLemmas.{callees_are}
use Rattle.flow_graph.proofs.lists.Membership.{Contains-in_flat_map, Contains-in_map, Contains-in_range, Contains-later, Contains-first, Contains-one}
use Rattle.flow_graph.proofs.places.PointLemmas.{points_have_places}
use Rattle.flow_views.specs.Views.{points_in}
use Rattle.flow_views.proofs.facts.Tables.{ends_below}
use Rattle.flow_reports.specs.Listed.{placed_at, remarks_of}
use Rattle.flow_reports.specs.Reports.{Knowledge, remarks_at}
use Rattle.flow_reports.specs.declared.listed.PlacedRemark.{PlacedRemark}
use Rattle.flow_reports.specs.declared.remark.Remark.{Remark}
use Rattle.flow_texts.proofs.sets.RangeLines.{range_split}
use Rattle.graph_components.specs.declared.arc.Arc.{Arc}
use Rattle.tac_program.specs.Programs.{Program}
use Rattle.tac_program.specs.Sound.{IsSound}
use Rattle.call_dots.specs.Calls.{all_calls, arc_of, arcs_of, calls_at, calls_in, edge_of, edges_in, edges_of, first_calls, noted_call, procedures_of}
use Rattle.call_dots.specs.code.Tables.{IsEdgeIn}
use Rattle.call_dots.specs.declared.calls.CallEdge.{CallEdge}
use Rattle.call_dots.specs.declared.calls.NamedCall.{NamedCall}

-- what holds of all that a list contains holds of its elements
pub all_from : {A : Type 0} (P : A → Type 0) (xs : List A) → ((x : A) → Contains xs x → P x) → All P xs
all_from P xs each k d below = each (get_or xs k d) (k, below, get_or_default xs k _ d below)

-- its procedures and its point are there
pub record IsCallIn (program : Program) (call : NamedCall) : Type 0 where
  pub caller : call.caller < length program.procedures
  pub callee : call.callee < length program.procedures
  pub site : call.site < point_count program

pub call_is_in : (program : Program) → IsSound program → (procedure : ℕ) → procedure < length program.procedures → (call : NamedCall)
    → Contains (calls_in program procedure) call → IsCallIn program call
call_is_in program sound procedure there call at =
    let (site, among, here) = Contains-in_flat_map (calls_at program) (points_in program procedure) call at in
    let (low, high) = Contains-in_range (entry_point program procedure) (suc (end_place program procedure)) site among in
    let below : site < point_count program = omega (arith, high, ends_below program procedure there) in
    let (callee, named, is) = Contains-in_map (λ callee. record { caller = procedure_at program site; callee = callee; site = site })
    (callees_at program site) call here in
    let place = points_have_places program site below in
    record {
      caller = omega (arith, place.procedure, ap (λ (c : NamedCall). c.caller) is);
      callee = omega (
        arith,
        All-Contains (λ p. p < length program.procedures) (callees_at program site) callee
            (callees_are program site sound below).there named,
        ap (λ (c : NamedCall). c.callee) is,
      );
      site = omega (arith, below, ap (λ (c : NamedCall). c.site) is);
    }

pub callees_within : (program : Program) → IsSound program → (procedure : ℕ) → procedure < length program.procedures
    → All (λ (call : NamedCall). call.callee < length program.procedures) (calls_in program procedure)
callees_within program sound procedure there =
    all_from (λ (call : NamedCall). call.callee < length program.procedures) (calls_in program procedure)
    (λ call at. (call_is_in program sound procedure there call at).callee)

pub arcs_within : (program : Program) → IsSound program
    → All (λ (arc : Arc). (arc.from < length program.procedures) × (arc.to < length program.procedures)) (arcs_of program)
arcs_within program sound =
    all_from (λ (arc : Arc). (arc.from < length program.procedures) × (arc.to < length program.procedures)) (arcs_of program)
    (λ arc at.
    let (call, among, is) = Contains-in_map arc_of (all_calls program) arc at in
    let (procedure, numbered, here) = Contains-in_flat_map (calls_in program) (procedures_of program) call among in
    let (low, high) = Contains-in_range 0 (length program.procedures) procedure numbered in
    let call_in = call_is_in program sound procedure (omega (arith, high)) call here in
    (omega (arith, call_in.caller, ap (λ (a : Arc). a.from) is), omega (arith, call_in.callee, ap (λ (a : Arc). a.to) is)))

-- the first calls are among the calls
first_among : (known calls : List NamedCall) (call : NamedCall) → Contains (fold noted_call known calls) call → Contains known call ⊎ Contains calls call
first_among known [] call at = inl at
first_among known (x ∷ calls) call at = step (first_among (noted_call known x) calls call at)
  where
    noted : (b : Bool) → Contains (if b then known else known ++ x ∷ []) call → Contains known call ⊎ Contains (x ∷ calls) call
    noted true there = inl there
    noted false there = elim (Contains-append_cases known (x ∷ []) call there) [
      | inl before ↦ inl before
      | inr here ↦ inr (subst (Contains (x ∷ calls)) (sym (Contains-one x call here)) (Contains-first x calls))
    ]

    step : Contains (noted_call known x) call ⊎ Contains calls call → Contains known call ⊎ Contains (x ∷ calls) call
    step (inl there) = noted (list_any (λ k. nat_eq x.callee k.callee) known) there
    step (inr later) = inr (Contains-later x calls call later)

pub edges_are_in : (program : Program) → IsSound program → All (IsEdgeIn program) (edges_of program)
edges_are_in program sound =
    all_from (IsEdgeIn program) (edges_of program)
    (λ edge at.
    let (procedure, numbered, here) = Contains-in_flat_map (edges_in program) (procedures_of program) edge at in
    let (low, high) = Contains-in_range 0 (length program.procedures) procedure numbered in
    let (call, among, is) = Contains-in_map (edge_of (calls_in program procedure)) (first_calls (calls_in program procedure)) edge here in
    let call_in : IsCallIn program call = elim (first_among [] (calls_in program procedure) call among) [
      | inl none ↦ absurd (omega (arith, none.1))
      | inr there ↦ call_is_in program sound procedure (omega (arith, high)) call there
    ] in
    record {
      caller = omega (arith, call_in.caller, ap (λ (e : CallEdge). e.call.caller) is);
      callee = omega (arith, call_in.callee, ap (λ (e : CallEdge). e.call.callee) is);
      site = omega (arith, call_in.site, ap (λ (e : CallEdge). e.call.site) is);
    })

-- the calls of a point more
pub walk_further : {A : Type 0} (f : ℕ → List A) (first n : ℕ) → first ≤ n
    → flat_map f (range_with_len first (n - first)) ++ f n ≡ flat_map f (range_with_len first (n + 1 - first))
walk_further f first n above =
    let here : first + (n - first) ≡ n = omega arith in
    let longer : n - first + 1 ≡ n + 1 - first = omega arith in
    ap (λ t. flat_map f (range_with_len first (n - first)) ++ t) (sym (append-nil (f n)))
    ∙ ap (λ m. flat_map f (range_with_len first (n - first)) ++ flat_map f (m ∷ [])) (sym here)
    ∙ sym (flat_map-append f (range_with_len first (n - first)) (range_with_len (first + (n - first)) 1))
    ∙ ap (flat_map f) (sym (range_split first (n - first) 1))
    ∙ ap (λ k. flat_map f (range_with_len first k)) longer

-- the remarks on a program are on its points
pub remarks_within : (program : Program) (known : Knowledge) → All (λ (placed : PlacedRemark). placed.point < point_count program) (remarks_of program known)
remarks_within program known =
    all_from (λ (placed : PlacedRemark). placed.point < point_count program) (remarks_of program known)
    (λ placed at.
    let (point, among, here) = Contains-in_flat_map (λ point. placed_at point (remarks_at program known point)) (points program) placed at in
    let (low, high) = Contains-in_range 0 (point_count program) point among in
    let (remark, made, is) = Contains-in_map (λ (remark : Remark). record { point = point; remark = remark }) (remarks_at program known point) placed here in
    omega (arith, high, ap (λ (p : PlacedRemark). p.point) is))
