use Rattle.std.proofs.Common.{◌≡◌, length, arith}
use Rattle.flow_graph.specs.Points.{point_count}
use Rattle.flow_links.specs.Shapes.{directed_shape}
use Rattle.flow_why.proofs.solutions.Keeping.{callers_lead}
use Rattle.flow_why.proofs.scope.skipped_for.Goals as goal

pub returns-clause-scope : goal.returns-clause-scope
returns-clause-scope c =
    let linked = c.args.links.now in
    let leads = c.in_ok-leads-2.leads.items in
    let count : length leads ≡ (directed_shape linked).procedures = c.in_ok-leads-2.ensures.count in
    callers_lead (directed_shape linked) linked.backward (point_count linked.program) c.points.ensures.numbered leads c.loop-number.skipped.items
    c.in_ok-leads-2.ensures.closed
    (λ p low. c.loop-number.invariant.each p (omega (arith, low, count, c.loop-number-test.false, c.len-number-end.ensures)))
