use Rattle.std.proofs.Common.{subst, sym}
use Rattle.flow_graph.specs.Points.{point_count}
use Rattle.flow_links.specs.Shapes.{directed_shape}
use Rattle.flow_graph.specs.Paths.{root}
use Rattle.flow_why.specs.code.Frames.{question_of}
use Rattle.flow_why.specs.code.Visits.{IsComplete}
use Rattle.flow_why.specs.declared.claim.Claim.TheVariants as claim
use Rattle.flow_why.proofs.visits.Closing.{begun_more, blank_closed, blank_orderly, closed_more, complete_of}
use Rattle.flow_why.proofs.visits.Closing.{new_orderly, taken_are, taken_has, visit_falls}
use Rattle.flow_why.proofs.visits.Growing.{grows_on, has_on}
use Rattle.flow_why.proofs.run.run.Goals as goal

pub visits-init : goal.visits-init
visits-init c =
    let frame = c.args.frame.now in
    let first = c.in_ok-begin_at_root.ensures in
    let second = c.in_ok-gen_all.ensures in
    let points = point_count frame.links.now.program in
    let grows = grows_on c.args.search.now c.begin_at_root.new.search c.gen_all.new.search first.spreads.grows second.spreads.grows in record {
      marks = second.spreads.marks;
      orderly = blank_orderly points c.args.search.now c.gen_all.new.search c.requires.blank grows;
      closed = blank_closed points c.args.search.now c.gen_all.new.search c.requires.blank grows frame;
      begun = record {
        boundary = λ has. has_on c.begin_at_root.new.search c.gen_all.new.search claim.Holds (root
            (directed_shape frame.links.now)) second.spreads.grows
            (first.has has);
        gens = λ d x y edge gens based. second.visited x y edge d gens based;
      };
    }

pub visit-requires-clause-marks : goal.visit-requires-clause-marks
visit-requires-clause-marks c =
    taken_are (question_of c.args.frame.now) c.visits.search c.take.new.self c.in-Some.claim c.in-Some.at c.in-Some.ensures c.visits.invariant.marks

pub visit-requires-clause-here : goal.visit-requires-clause-here
visit-requires-clause-here c = taken_has c.visits.search c.take.new.self c.in-Some.claim c.in-Some.at c.in-Some.ensures

pub visits-smaller : goal.visits-smaller
visits-smaller c = visit_falls c.visits.search c.take.new.self c.visit.new.search c.in-Some.claim c.in-Some.at c.in-Some.ensures c.in_ok-visit.ensures.spreads.grows

pub visits-preserved : goal.visits-preserved
visits-preserved c =
    let frame = c.args.frame.now in
    let more = c.in_ok-visit.ensures in record {
      marks = more.spreads.marks;
      orderly = new_orderly frame c.requires.frame c.visits.search c.take.new.self c.visit.new.search c.in-Some.claim c.in-Some.at c.visits.invariant.orderly c.in-Some.ensures
          more.spreads.grows more.visited;
      closed = closed_more frame c.requires.frame c.visits.search c.take.new.self c.visit.new.search c.in-Some.claim c.in-Some.at
          c.visits.invariant.orderly c.in-Some.ensures more.spreads.grows more.visited c.visits.invariant.closed;
      begun = begun_more frame c.requires.frame c.visits.search c.take.new.self c.visit.new.search c.in-Some.claim c.in-Some.at
          c.visits.invariant.orderly c.in-Some.ensures more.spreads.grows more.visited c.visits.invariant.begun;
    }

pub returns-clause-complete : goal.returns-clause-complete
returns-clause-complete c =
    subst (IsComplete (question_of c.args.frame.now)) (sym c.in_default.ensures.same)
    (complete_of c.args.frame.now c.visits.search c.in_default.ensures.all c.visits.invariant.closed c.visits.invariant.begun)
