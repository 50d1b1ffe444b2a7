use Rattle.std.proofs.Common.{◌<◌, ℕ, arith, rules, sym, subst}
use Rattle.flow_graph.specs.Points.{point_count}
use Rattle.tac_program.specs.Programs.{Program}
use Rattle.flow_reasons.specs.code.Marks.{IsMet}
use Rattle.flow_reasons.proofs.lists.Rising.{all_of, not_here, one_step}
use Rattle.flow_reasons.proofs.met.met_points.Goals as goal
use Rattle.flow_reasons.proofs.met.met_points.Goals.{then-wanted-point+in_ok-has+in_ok-put_if, else-wanted-point}

pub loop-point-preserved : goal.loop-point-preserved
loop-point-preserved c =
    let met = c.args.search.now in
    let kind : ℕ → Type 0 = IsMet met.ways.now.linked c.args.wanted.now met.stops.now met.at in
    elim c.if-wanted-point.branch [
      | then-wanted-point+in_ok-has+in_ok-put_if w ↦ rw (w.list-is, w.space-is) (
        one_step kind c.loop-point.point c.loop-point.list.items c.loop-point.invariant.0 w.in_ok-has.has w.put_if.new.numbers.items
            (λ h. record { below = search rules; marked = w.if-wanted-point.true; meets = w.in_ok-has.ensures.has.0 h }, λ is. w.in_ok-has.ensures.has.1 is.meets)
            w.in_ok-put_if.ensures,
        w.in_ok-has.ensures.space,
      )
      | else-wanted-point w ↦ rw (w.list-is, w.space-is) (
        not_here kind c.loop-point.point c.loop-point.list.items c.loop-point.invariant.0 (λ is. absurd (cc (is.marked, w.if-wanted-point.false))),
        c.loop-point.invariant.1,
      )
    ]

pub returns : goal.returns
returns c =
    let search = c.args.search.now in
    all_of (IsMet search.ways.now.linked c.args.wanted.now search.stops.now search.at) c.loop-point.point c.loop-point.list.items
    c.loop-point.invariant.0
    (λ m met.
    let low : m < point_count search.ways.now.linked.program = subst (λ n. m < n) c.requires.wanted met.below in
    let here : m < point_count search.graph.now =
    subst (λ (p : Program). m < point_count p) (sym c.requires.graph) low in
    omega (arith, here, c.loop-point-test.false, c.points-point-end.ensures.count))
