use Rattle.std.proofs.Common.{ap, subst}
use Rattle.flow_why.specs.code.Frames.{IsAskedOf, transfer_of_asked}
use Rattle.flow_why.proofs.visits.Statements.{paths_visited}
use Rattle.flow_why.proofs.run.gen_all.Goals as goal

pub returns-in-Paths-clause-visited : goal.returns-in-Paths-clause-visited
returns-in-Paths-clause-visited c = paths_visited c.args.frame.now c.requires.frame c.args.search.now c.in-Paths.is

pub gen_points-requires-clause-column : goal.gen_points-requires-clause-column
gen_points-requires-clause-column c =
    let frame = c.args.frame.now in
    let asked = subst (IsAskedOf frame.links.now) c.in-Column.is c.requires.frame.asked in
    record { linked = asked.0; within = asked.1; transfer = ap (transfer_of_asked frame.links.now.backward) c.in-Column.is }

pub gen_statements-requires-clause-points : goal.gen_statements-requires-clause-points
gen_statements-requires-clause-points c =
    let frame = c.args.frame.now in
    record {
      of = subst (IsAskedOf frame.links.now) c.in-Points.is c.requires.frame.asked;
      transfer = ap (transfer_of_asked frame.links.now.backward) c.in-Points.is;
    }
