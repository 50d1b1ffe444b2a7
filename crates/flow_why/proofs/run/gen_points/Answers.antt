use Rattle.std.proofs.Common.{◌<◌, ℕ, arith, below_more}
use Rattle.flow_graph.specs.declared.edge.Edge.TheVariants.{Step}
use Rattle.flow_graph.specs.Paths.{IsEdge}
use Rattle.flow_links.specs.Shapes.{directed_shape}
use Rattle.flow_why.specs.code.Frames.{question_of}
use Rattle.flow_why.specs.code.Visits.{IsGenVisited}
use Rattle.flow_why.proofs.visits.Growing.{spreads_not, spreads_on}
use Rattle.flow_why.proofs.visits.Reasons.{source_low}
use Rattle.flow_why.proofs.visits.Visiting.{gen_visited_on}
use Rattle.flow_why.proofs.run.gen_points.Goals as goal

pub loop-at-init : goal.loop-at-init
loop-at-init c = record {
  spreads = spreads_not (question_of c.args.frame.now) c.args.search.now c.requires.marks;
  done = λ x below. absurd (omega (arith, below));
}

pub loop-at-preserved : goal.loop-at-preserved
loop-at-preserved c =
    let frame = c.args.frame.now in
    let question = question_of frame in
    let more = c.in_ok-gen_steps.ensures in record {
      spreads = spreads_on question c.args.search.now c.loop-at.search c.gen_steps.new.search c.loop-at.invariant.spreads more.spreads;
      done = below_more (λ x. (y : ℕ) → IsEdge (directed_shape frame.links.now) (Step x y) → IsGenVisited question x y c.gen_steps.new.search)
          c.loop-at.at
          (λ x below y there. gen_visited_on question x y c.loop-at.search c.gen_steps.new.search more.spreads.grows
          (c.loop-at.invariant.done x below y there))
          more.visited;
    }

pub returns-clause-visited : goal.returns-clause-visited
returns-clause-visited c x y there =
    let low = source_low c.args.frame.now c.requires.frame x y there in
    let below : x < c.loop-at.at = omega (arith, low, c.loop-at-test.false, c.points-at-end.ensures.count) in
    c.loop-at.invariant.done x below y there
