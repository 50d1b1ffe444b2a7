use Rattle.std.proofs.Common.{arith, subst}
use Rattle.flow_why.specs.code.Found.{point_at}
use Rattle.flow_why.specs.code.Trails.{IsTurn, origin_point, origin_value, trail_of}
use Rattle.flow_why.proofs.trails.Following.{lead_on}
use Rattle.flow_why.proofs.trail.follow.Goals as goal

pub back-preserved : goal.back-preserved
back-preserved c =
    let marks = c.args.marks.now in
    let trail = trail_of c.args.frame.now c.args.based c.args.claim in
    let turn = subst (IsTurn trail marks c.back.at c.back.hops.items c.turn_back.new.hops.items) c.in-On.is c.in_ok-before.ensures in record {
      within = omega (arith, turn.0, c.back.invariant.within);
      leads = lead_on trail (point_at marks.found c.args.place) trail.question.value c.args.hops.now.items (point_at marks.found c.back.at)
          trail.question.value c.back.hops.items (point_at marks.found c.in-On.before) trail.question.value c.turn_back.new.hops.items
          c.back.invariant.leads turn.1;
      count = omega (arith, turn.0, turn.2, c.back.invariant.count);
    }

pub returns-in-Ends : goal.returns-in-Ends
returns-in-Ends c =
    let marks = c.args.marks.now in
    let trail = trail_of c.args.frame.now c.args.based c.args.claim in
    let turn = subst (IsTurn trail marks c.back.at c.back.hops.items c.turn_back.new.hops.items) c.in-Ends.is c.in_ok-before.ensures in record {
      is = turn.0;
      leads = lead_on trail (point_at marks.found c.args.place) trail.question.value c.args.hops.now.items (point_at marks.found c.back.at)
          trail.question.value c.back.hops.items (origin_point c.in-Ends.end) (origin_value trail c.in-Ends.end) c.turn_back.new.hops.items
          c.back.invariant.leads turn.1;
      count = omega (arith, turn.2, c.back.invariant.count);
    }
