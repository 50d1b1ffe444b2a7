use Rattle.std.proofs.Common.{get_or, arith, sym, subst}
use Rattle.std.proofs.lemmas.List.Elements.{Contains-get_or}
use Rattle.flow_links.specs.LinkLists.{IsCallLink}
use Rattle.flow_links.specs.Shapes.{directed_shape}
use Rattle.flow_links.specs.declared.link.CallLink.{CallLink}
use Rattle.summary_equations.specs.Equations.{CallsAt}
use Rattle.flow_why.specs.code.Frames.{question_of}
use Rattle.flow_why.specs.code.Visits.{IsCallVisited}
use Rattle.flow_why.proofs.visits.Growing.{has_on, spreads_not, spreads_on, still}
use Rattle.flow_why.proofs.visits.Links.{call_by_link, link_of_call}
use Rattle.flow_why.proofs.visits.Listed.{each_listed, listed_more}
use Rattle.flow_why.proofs.visits.Visiting.{call_visited_on}
use Rattle.flow_why.proofs.visit.visit_calls.Goals as goal

abbrev none : CallLink
none = record { exit = 0; after = 0 }

pub loop-call-init : goal.loop-call-init
loop-call-init c = record {
  spreads = spreads_not (question_of c.args.frame.now) c.args.search.now c.requires.marks;
  done = λ j d below. absurd (omega (arith, below));
}

pub visit_call-requires : goal.visit_call-requires
visit_call-requires c =
    let frame = c.args.frame.now in
    let list = c.calls_from-calls.result.now in
    let k = c.loop-call.call-index in
    let (site, call) = call_by_link frame c.requires.frame c.args.at (get_or list k none)
    ((c.calls_from-calls.ensures.listed (get_or list k none)).0 (Contains-get_or list k none c.loop-call-test.true)) in record {
      frame = c.requires.frame;
      marks = c.loop-call.invariant.spreads.marks;
      call = (site, subst (CallsAt (directed_shape frame.links.now) site c.args.at) (sym c.procedure_of.ensures) call);
      here = has_on c.args.search.now c.loop-call.search c.args.claim c.args.at c.loop-call.invariant.spreads.grows c.requires.here;
    }

pub loop-call-preserved : goal.loop-call-preserved
loop-call-preserved c =
    let frame = c.args.frame.now in
    let question = question_of frame in
    let shape = directed_shape frame.links.now in
    let start = c.args.search.now in
    let more = c.in_ok-visit_call.ensures in record {
      spreads = spreads_on question start c.loop-call.search c.visit_call.new.search c.loop-call.invariant.spreads more.spreads;
      done = listed_more (λ (link : CallLink). IsCallLink shape frame.links.now.backward c.args.at link)
          (λ (link : CallLink). IsCallVisited question c.args.claim c.args.at (shape.procedure_of link.exit) start c.loop-call.search)
          (λ (link : CallLink). IsCallVisited question c.args.claim c.args.at (shape.procedure_of link.exit) start c.visit_call.new.search)
          c.calls_from-calls.result.now c.loop-call.call-index none c.loop-call-test.true (λ link there.
          (c.calls_from-calls.ensures.listed link).0 there)
          (λ link there before. call_visited_on question c.args.claim c.args.at (shape.procedure_of link.exit) start start c.loop-call.search
          c.visit_call.new.search (still start) more.spreads.grows before)
          c.loop-call.invariant.done
          (subst (λ p. IsCallVisited question c.args.claim c.args.at p start c.visit_call.new.search) c.procedure_of.ensures
          (call_visited_on question c.args.claim c.args.at c.procedure_of.result start c.loop-call.search c.visit_call.new.search c.visit_call.new.search
          c.loop-call.invariant.spreads.grows (still c.visit_call.new.search) more.visited));
    }

pub returns-clause-visited : goal.returns-clause-visited
returns-clause-visited c site p call =
    let frame = c.args.frame.now in
    let question = question_of frame in
    let shape = directed_shape frame.links.now in
    let (link, there, same) = link_of_call frame c.requires.frame site c.args.at p call in
    subst (λ q. IsCallVisited question c.args.claim c.args.at q c.args.search.now c.loop-call.search) same
    (each_listed (λ (l : CallLink). IsCallVisited question c.args.claim c.args.at (shape.procedure_of l.exit) c.args.search.now c.loop-call.search)
    c.calls_from-calls.result.now none c.loop-call.call-index (omega arith) (λ j below. c.loop-call.invariant.done j none below) link
    ((c.calls_from-calls.ensures.listed link).1 there))
