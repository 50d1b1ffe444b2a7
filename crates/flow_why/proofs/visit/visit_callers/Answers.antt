use Rattle.std.proofs.Common.{get_or, arith, sym, subst, ap, ◌∙◌}
use Rattle.std.proofs.lemmas.List.Elements.{Contains-get_or}
use Rattle.flow_links.specs.LinkLists.{IsCallerOf}
use Rattle.flow_links.specs.Shapes.{directed_shape}
use Rattle.summary_equations.specs.Equations.{CallsAt}
use Rattle.flow_why.specs.code.Found.{Has}
use Rattle.flow_why.specs.code.Frames.{question_of}
use Rattle.flow_why.specs.code.Visits.{IsCallerVisited}
use Rattle.flow_why.proofs.visits.Growing.{has_on, spreads_not, spreads_on, still}
use Rattle.flow_why.proofs.visits.Links.{call_by_caller, caller_of_call}
use Rattle.flow_why.proofs.visits.Listed.{each_listed, listed_more}
use Rattle.flow_why.proofs.visits.Visiting.{caller_visited_on}
use Rattle.flow_why.proofs.visit.visit_callers.Goals as goal

pub loop-caller-init : goal.loop-caller-init
loop-caller-init c = record {
  spreads = spreads_not (question_of c.args.frame.now) c.args.search.now c.requires.marks;
  done = λ j d below. absurd (omega (arith, below));
}

pub visit_caller-requires : goal.visit_caller-requires
visit_caller-requires c =
    let frame = c.args.frame.now in
    let shape = directed_shape frame.links.now in
    let list = c.callers_of-callers.result.now in
    let k = c.loop-caller.caller-index in
    let (site, call, exit) = call_by_caller frame c.requires.frame c.args.at (get_or list k 0)
    ((c.callers_of-callers.ensures.listed (get_or list k 0)).0 (Contains-get_or list k 0 c.loop-caller-test.true)) in record {
      frame = c.requires.frame;
      marks = c.loop-caller.invariant.spreads.marks;
      call = (site, subst (CallsAt shape site (get_or list k 0)) (sym c.procedure_of-callee.ensures) call);
      here = subst (λ x. Has c.loop-caller.search c.args.claim x) (sym (ap shape.exit c.procedure_of-callee.ensures ∙ exit))
          (has_on c.args.search.now c.loop-caller.search c.args.claim c.args.at c.loop-caller.invariant.spreads.grows c.requires.here);
    }

pub loop-caller-preserved : goal.loop-caller-preserved
loop-caller-preserved c =
    let frame = c.args.frame.now in
    let question = question_of frame in
    let shape = directed_shape frame.links.now in
    let start = c.args.search.now in
    let more = c.in_ok-visit_caller.ensures in record {
      spreads = spreads_on question start c.loop-caller.search c.visit_caller.new.search c.loop-caller.invariant.spreads more.spreads;
      done = listed_more (λ x. IsCallerOf shape c.args.at x)
          (λ x. IsCallerVisited question c.args.claim x start c.loop-caller.search)
          (λ x. IsCallerVisited question c.args.claim x start c.visit_caller.new.search)
          c.callers_of-callers.result.now c.loop-caller.caller-index 0 c.loop-caller-test.true (λ x there.
          (c.callers_of-callers.ensures.listed x).0 there)
          (λ x there before. caller_visited_on question c.args.claim x start start c.loop-caller.search
          c.visit_caller.new.search (still start) more.spreads.grows before)
          c.loop-caller.invariant.done
          (caller_visited_on question c.args.claim _ start c.loop-caller.search c.visit_caller.new.search c.visit_caller.new.search
          c.loop-caller.invariant.spreads.grows (still c.visit_caller.new.search) more.visited);
    }

pub returns-clause-visited : goal.returns-clause-visited
returns-clause-visited c site y p call at =
    let frame = c.args.frame.now in
    let question = question_of frame in
    each_listed (λ x. IsCallerVisited question c.args.claim x c.args.search.now c.loop-caller.search)
    c.callers_of-callers.result.now 0 c.loop-caller.caller-index (omega arith) (λ j below. c.loop-caller.invariant.done j 0 below) y
    ((c.callers_of-callers.ensures.listed y).1 (caller_of_call frame c.requires.frame site y p c.args.at call at))
