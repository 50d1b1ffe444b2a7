use Rattle.std.proofs.Common.{get_or, arith}
use Rattle.std.proofs.lemmas.List.Elements.{Contains-get_or}
use Rattle.flow_graph.specs.declared.edge.Edge.TheVariants.{Step}
use Rattle.flow_graph.specs.Paths.{IsEdge}
use Rattle.flow_links.specs.Shapes.{directed_shape}
use Rattle.flow_why.specs.code.Frames.{question_of}
use Rattle.flow_why.specs.code.Visits.{IsGenVisited}
use Rattle.flow_why.proofs.visits.Growing.{spreads_not, spreads_on}
use Rattle.flow_why.proofs.visits.Listed.{each_listed, listed_more}
use Rattle.flow_why.proofs.visits.Visiting.{gen_visited_on}
use Rattle.flow_why.proofs.run.gen_steps.Goals as goal

pub loop-to-init : goal.loop-to-init
loop-to-init c = record {
  spreads = spreads_not (question_of c.args.frame.now) c.args.search.now c.requires.marks;
  done = λ j d below. absurd (omega (arith, below));
}

pub gen_step-requires : goal.gen_step-requires
gen_step-requires c =
    let list = c.steps_from-steps.result.now in
    let k = c.loop-to.to-index in record {
      frame = c.requires.frame;
      column = c.requires.column;
      marks = c.loop-to.invariant.spreads.marks;
      there = (c.steps_from-steps.ensures.listed (get_or list k 0)).0 (Contains-get_or list k 0 c.loop-to-test.true);
    }

pub loop-to-preserved : goal.loop-to-preserved
loop-to-preserved c =
    let frame = c.args.frame.now in
    let question = question_of frame in
    let more = c.in_ok-gen_step.ensures in record {
      spreads = spreads_on question c.args.search.now c.loop-to.search c.gen_step.new.search c.loop-to.invariant.spreads more.spreads;
      done = listed_more (λ y. IsEdge (directed_shape frame.links.now) (Step c.args.at y))
          (λ y. IsGenVisited question c.args.at y c.loop-to.search)
          (λ y. IsGenVisited question c.args.at y c.gen_step.new.search)
          c.steps_from-steps.result.now c.loop-to.to-index 0 c.loop-to-test.true (λ y there. (c.steps_from-steps.ensures.listed y).0 there)
          (λ y there before. gen_visited_on question c.args.at y c.loop-to.search c.gen_step.new.search more.spreads.grows before)
          c.loop-to.invariant.done more.visited;
    }

pub returns-clause-visited : goal.returns-clause-visited
returns-clause-visited c y there =
    each_listed (λ y. IsGenVisited (question_of c.args.frame.now) c.args.at y c.loop-to.search) c.steps_from-steps.result.now 0
    c.loop-to.to-index (omega arith) (λ j below. c.loop-to.invariant.done j 0 below) y
    ((c.steps_from-steps.ensures.listed y).1 there)
