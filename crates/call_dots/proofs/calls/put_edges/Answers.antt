use Rattle.std.proofs.Common.{◌≡◌, ◌⊎◌, inl, inr, ◌∙◌, ◌<◌, ◌≤◌, ◌++◌, ◌∷◌, [], ℕ, List, get_or, length, map, take, nat_eq, if◌then◌else◌, ap, arith}
use Rattle.std.proofs.Common.{append_assoc, length-set}
use Rattle.std.proofs.lemmas.Bool.{cases_lt}
use Rattle.std.proofs.lemmas.List.{get_or_default, get_or_past, take_all}
use Rattle.call_dots.specs.Calls.{edge_of, first_calls}
use Rattle.call_dots.specs.declared.calls.CallEdge.{CallEdge}
use Rattle.call_dots.specs.declared.calls.NamedCall.{NamedCall}
use Rattle.call_dots.proofs.named.Edges.{edges_put, left_of, left_put, none_left}
use Rattle.call_dots.proofs.calls.put_edges.Goals as goal

pub loop-call-preserved : goal.loop-call-preserved
loop-call-preserved c =
    let calls : List NamedCall = c.args.calls.now in
    let i : ℕ = c.loop-call.call-index in
    let none : NamedCall = record { caller = 0; callee = 0; site = 0 } in
    let x : NamedCall = get_or calls i none in
    let low : i < length calls = c.loop-call-test.true in
    let here : get_or calls i x ≡ x = get_or_default calls i x none low in
    let counts : List ℕ = c.loop-call.counts.items in
    let as_many = c.loop-call.invariant.count in
    let inside : x.callee < length counts = omega (arith, c.requires.callees i none low, as_many) in
    let each : (callee : ℕ) → callee < length counts → get_or counts callee 0 ≡ left_of calls (first_calls (take i calls)) callee =
    λ callee below. c.loop-call.invariant.each callee (omega (arith, below, as_many)) in
    let read : c.index-count.result.now ≡ get_or counts x.callee 0 = c.index-count.ensures ∙ get_or_default counts x.callee _ 0 inside in
    let one : ℕ → List CallEdge = λ n. if nat_eq n 0 then [] else record { call = x; count = n } ∷ [] in
    record {
      edges = c.in_ok-put_edge_if.ensures
          ∙ ap (λ n. c.loop-call.edges.items ++ one n) read
          ∙ ap (λ (es : List CallEdge). es ++ one (get_or counts x.callee 0)) c.loop-call.invariant.edges
          ∙ append_assoc c.args.edges.now.items (map (edge_of calls) (first_calls (take i calls))) (one (get_or counts x.callee 0))
          ∙ ap (λ (es : List CallEdge). c.args.edges.now.items ++ es) (edges_put calls i x counts low here inside each);
      count = length-set counts x.callee 0 ∙ as_many;
      each = λ callee below. left_put calls i x counts low here inside each callee (omega (arith, below, as_many));
    }

pub returns-clause-zero : goal.returns-clause-zero
returns-clause-zero c k = by_case (cases_lt k (length c.loop-call.counts.items))
  where
    by_case : (k < length c.loop-call.counts.items) ⊎ (length c.loop-call.counts.items ≤ k) → get_or c.loop-call.counts.items k 0 ≡ 0
    by_case (inl low) =
        c.loop-call.invariant.each k (omega (arith, low, c.loop-call.invariant.count))
        ∙ ap (λ (calls : List NamedCall). left_of c.args.calls.now (first_calls calls) k)
        (take_all c.loop-call.call-index c.args.calls.now c.loop-call-test.false)
        ∙ none_left c.args.calls.now k
    by_case (inr past) = get_or_past c.loop-call.counts.items k 0 past
