use Rattle.std.proofs.Common.{◌≡◌, ◌<◌, ℕ, List, Bool, true, false, slice_index_or, arith, subst}
use Rattle.std.proofs.lemmas.Result.{IfOk-weaker}
use Rattle.flow_graph.specs.Points.{point_count}
use Rattle.flow_links.specs.Shapes.{directed_shape}
use Rattle.flow_why.specs.code.Scopes.{AreClosedUp}
use Rattle.flow_why.proofs.solutions.Keeping.{all_closed}
use Rattle.flow_why.proofs.scope.with_callers.Goals as goal

pub returns-then-branch-clause-closed : goal.returns-then-branch-clause-closed
returns-then-branch-clause-closed c = subst (λ (m : List Bool). AreClosedUp (directed_shape c.args.links.now) m) c.as_slice.ensures.value
    (c.in_ok-are_closed_up.ensures c.if-branch.true)

pub returns-clause-closed : goal.returns-clause-closed
returns-clause-closed c =
    let linked = c.args.links.now in
    IfOk-weaker c.full_marks.result (λ all. (p : ℕ) → p < c.len.result → slice_index_or all.items p false ≡ true)
    (λ all. AreClosedUp (directed_shape linked) all.items)
    (λ all each. all_closed (directed_shape linked) linked.backward (point_count linked.program) c.points.ensures.numbered all.items
    (λ p low. each p (omega (arith, low, c.len.ensures, c.args.marks.ok.0, c.requires.count))))
    c.full_marks.ensures.each
