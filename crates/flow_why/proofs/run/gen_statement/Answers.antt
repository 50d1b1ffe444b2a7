use Rattle.std.proofs.Common.{◌≡◌, ◌<◌, get_or, arith, sym, subst, ap, ◌∙◌, Contains}
use Rattle.std.proofs.lemmas.List.Elements.{Contains-get_or}
use Rattle.tac_program.specs.Programs.{Program}
use Rattle.tac_program.specs.Sound.{IsSound}
use Rattle.flow_graph.specs.Edges.{edges_from}
use Rattle.flow_graph.specs.Points.{point_count}
use Rattle.flow_graph.specs.declared.edge.Edge.{Edge}
use Rattle.flow_graph.specs.declared.edge.Edge.TheVariants.{Step}
use Rattle.flow_why.specs.code.Frames.{GeneratesAt, question_of}
use Rattle.flow_why.specs.code.Visits.{IsEdgeGenVisited}
use Rattle.flow_why.proofs.visits.Growing.{spreads_not, spreads_on}
use Rattle.flow_why.proofs.visits.Listed.{each_listed, listed_more}
use Rattle.flow_why.proofs.visits.Statements.{edge_source, edge_there, edge_visited_on, no_statement, statement_visited}
use Rattle.flow_why.proofs.visits.Visiting.{gen_visited_on}
use Rattle.flow_why.proofs.run.gen_statement.Goals as goal

pub returns-then-point-points-clause-visited : goal.returns-then-point-points-clause-visited
returns-then-point-points-clause-visited c =
    no_statement c.args.frame.now c.requires.frame c.args.point c.args.search.now
    (λ low.
    let here : c.args.point < point_count c.args.graph.now = subst (λ (p : Program). c.args.point < point_count p) (sym c.requires.graph) low in
    absurd (omega (arith, c.if-point-points.true, c.points.ensures.count, here)))

pub loop-edge-init : goal.loop-edge-init
loop-edge-init c = record {
  spreads = spreads_not (question_of c.args.frame.now) c.args.search.now c.requires.marks;
  done = λ j d below. absurd (omega (arith, below));
}

pub gen_edge-requires : goal.gen_edge-requires
gen_edge-requires c =
    let program = c.args.frame.now.links.now.program in
    let list = c.as_slice-edge-items.result.now in
    let e = get_or list c.loop-edge.edge-index (Step 0 0) in
    let from : list ≡ edges_from program c.args.point =
    c.as_slice-edge-items.ensures ∙ (c.in_ok-edges.ensures ∙ ap (λ (p : Program). edges_from p c.args.point) c.requires.graph) in
    let among : Contains (edges_from program c.args.point) e =
    subst (λ l. Contains l e) from (Contains-get_or list c.loop-edge.edge-index (Step 0 0) c.loop-edge-test.true) in
    let here : c.args.point < point_count c.args.graph.now = omega (arith, c.if-point-points.false, c.points.ensures.count) in
    let low : c.args.point < point_count program = subst (λ (p : Program). c.args.point < point_count p) c.requires.graph here in
    let sound : IsSound program = subst IsSound c.requires.graph c.points.ensures.sound in record {
      frame = c.requires.frame;
      marks = c.loop-edge.invariant.spreads.marks;
      there = edge_there program c.args.point e low among;
      gens = subst (GeneratesAt c.args.frame.now) (sym (edge_source program sound c.args.point e low among)) c.requires.gens;
    }

pub loop-edge-preserved : goal.loop-edge-preserved
loop-edge-preserved c =
    let frame = c.args.frame.now in
    let question = question_of frame in
    let more = c.in_ok-gen_edge.ensures in record {
      spreads = spreads_on question c.args.search.now c.loop-edge.search c.gen_edge.new.search c.loop-edge.invariant.spreads more.spreads;
      done = listed_more (λ e. Unit {0}) (λ e. IsEdgeGenVisited frame e c.loop-edge.search) (λ e. IsEdgeGenVisited frame e c.gen_edge.new.search)
          c.as_slice-edge-items.result.now c.loop-edge.edge-index (Step 0 0) c.loop-edge-test.true (λ e there. tt)
          (λ e known before. edge_visited_on frame e c.loop-edge.search c.gen_edge.new.search
          (λ x y. gen_visited_on question x y c.loop-edge.search c.gen_edge.new.search more.spreads.grows) before)
          c.loop-edge.invariant.done more.visited;
    }

pub returns-clause-visited : goal.returns-clause-visited
returns-clause-visited c =
    let frame = c.args.frame.now in
    let program = frame.links.now.program in
    let list = c.as_slice-edge-items.result.now in
    let from : list ≡ edges_from program c.args.point =
    c.as_slice-edge-items.ensures ∙ (c.in_ok-edges.ensures ∙ ap (λ (p : Program). edges_from p c.args.point) c.requires.graph) in
    let sound : IsSound program = subst IsSound c.requires.graph c.points.ensures.sound in
    statement_visited frame c.requires.frame c.args.point c.loop-edge.search sound
    (λ e among. each_listed (λ (e : Edge). IsEdgeGenVisited frame e c.loop-edge.search) list (Step 0 0) c.loop-edge.edge-index
    (omega (arith, c.loop-edge-test.false)) (λ j below. c.loop-edge.invariant.done j (Step 0 0) below) e (subst (λ l. Contains l e) (sym from) among))
