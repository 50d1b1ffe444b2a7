use Rattle.std.proofs.Common.{◌≡◌, false, get_or, arith}
use Rattle.std.proofs.lemmas.List.Elements.{Contains-get_or}
use Rattle.flow_graph.specs.declared.edge.Edge.TheVariants.{Step}
use Rattle.flow_graph.specs.Paths.{IsEdge}
use Rattle.flow_links.specs.Shapes.{directed_shape}
use Rattle.flow_why.specs.code.Found.{Has}
use Rattle.flow_why.specs.code.Frames.{question_of, transfer_for}
use Rattle.flow_why.proofs.visits.Growing.{has_on, spreads_not, spreads_on}
use Rattle.flow_why.proofs.visits.Listed.{each_listed, listed_more}
use Rattle.flow_why.proofs.visit.visit_steps.Goals as goal

pub loop-to-init : goal.loop-to-init
loop-to-init c = record {
  spreads = spreads_not (question_of c.args.frame.now) c.args.search.now c.requires.marks;
  done = λ j d below. absurd (omega (arith, below));
}

pub visit_step-requires : goal.visit_step-requires
visit_step-requires c =
    let list = c.steps_from-steps.result.now in
    let k = c.loop-to.to-index in record {
      frame = c.requires.frame;
      marks = c.loop-to.invariant.spreads.marks;
      here = has_on c.args.search.now c.loop-to.search c.args.claim c.args.at c.loop-to.invariant.spreads.grows c.requires.here;
      there = (c.steps_from-steps.ensures.listed (get_or list k 0)).0 (Contains-get_or list k 0 c.loop-to-test.true);
    }

pub loop-to-preserved : goal.loop-to-preserved
loop-to-preserved c =
    let frame = c.args.frame.now in
    let more = c.in_ok-visit_step.ensures in record {
      spreads = spreads_on (question_of frame) c.args.search.now c.loop-to.search c.visit_step.new.search c.loop-to.invariant.spreads more.spreads;
      done = listed_more (λ y. IsEdge (directed_shape frame.links.now) (Step c.args.at y))
          (λ y. (transfer_for frame).kill c.args.at y ≡ false → Has c.loop-to.search c.args.claim y)
          (λ y. (transfer_for frame).kill c.args.at y ≡ false → Has c.visit_step.new.search c.args.claim y)
          c.steps_from-steps.result.now c.loop-to.to-index 0 c.loop-to-test.true (λ y there. (c.steps_from-steps.ensures.listed y).0 there)
          (λ y there before unkilled. has_on c.loop-to.search c.visit_step.new.search c.args.claim y more.spreads.grows (before unkilled))
          c.loop-to.invariant.done more.visited;
    }

pub returns-clause-visited : goal.returns-clause-visited
returns-clause-visited c y there =
    each_listed (λ y. (transfer_for c.args.frame.now).kill c.args.at y ≡ false → Has c.loop-to.search c.args.claim y) c.steps_from-steps.result.now 0
    c.loop-to.to-index (omega arith) (λ j below. c.loop-to.invariant.done j 0 below) y
    ((c.steps_from-steps.ensures.listed y).1 there)
