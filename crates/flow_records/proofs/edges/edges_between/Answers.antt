use Rattle.std.proofs.Common.{◌≡◌, ◌∙◌, ℕ, zero, suc, ◌+◌, ◌-◌, ◌≤◌, ◌++◌, [], ◌∷◌, List, append-nil, flat_map, map, sym, ap, arith}
use Rattle.std.specs.List.{range_with_len}
use Rattle.std.proofs.lemmas.Grind.{flat_map-append}
use Rattle.std.proofs.lemmas.List.{map-append}
use Rattle.flow_graph.specs.Edges.{edges_from}
use Rattle.flow_graph.specs.declared.edge.Edge.{Edge}
use Rattle.flow_records.specs.Edges.{edge_part}
use Rattle.flow_records.proofs.edges.edges_between.Goals as goal

range_split : (a m k : ℕ) → range_with_len a (m + k) ≡ range_with_len a m ++ range_with_len (a + m) k
range_split a zero k =
    let e : zero + k ≡ k = omega arith in
    let f : a ≡ a + zero = omega arith in
    ap (range_with_len a) e ∙ ap (λ b. range_with_len b k) f
range_split a (suc m) k =
    let e : suc m + k ≡ suc (m + k) = omega arith in
    let f : a + 1 + m ≡ a + suc m = omega arith in
    ap (range_with_len a) e ∙ ap (λ ns. a ∷ ns) (range_split (a + 1) m k ∙ ap (λ b. range_with_len (a + 1) m ++ range_with_len b k) f)

-- the edges of one point more
more : (f : ℕ → List Edge) (from point : ℕ) → from ≤ point
    → map edge_part (flat_map f (range_with_len from (point - from))) ++ map edge_part (f point)
    ≡ map edge_part (flat_map f (range_with_len from (point + 1 - from)))
more f from point after =
    let n : ℕ = point - from in
    let next : n + 1 ≡ point + 1 - from = omega (arith, after) in
    let here : from + n ≡ point = omega (arith, after) in
    sym (map-append edge_part (flat_map f (range_with_len from n)) (f point))
    ∙ ap (map edge_part)
    (ap (λ es. flat_map f (range_with_len from n) ++ es) (sym (append-nil (f point)) ∙ ap (λ p. f p ++ []) (sym here))
    ∙ sym (flat_map-append f (range_with_len from n) ((from + n) ∷ []))
    ∙ ap (flat_map f) (sym (range_split from n 1))
    ∙ ap (λ k. flat_map f (range_with_len from k)) next)

pub loop-point-preserved : goal.loop-point-preserved
loop-point-preserved c =
    let point : ℕ = c.loop-point.point in
    let from : ℕ = c.args.from in
    let f : ℕ → List Edge = edges_from c.args.graph.now in
    c.in_ok-put_edges.ensures
    ∙ ap (λ es. es ++ map edge_part c.as_slice.result.now) c.loop-point.invariant
    ∙ ap (λ es. map edge_part (flat_map f (range_with_len from (point - from))) ++ map edge_part es) (c.as_slice.ensures ∙ c.in_ok-found.ensures)
    ∙ more f from point (omega (arith, c.loop-point.auto.point))
