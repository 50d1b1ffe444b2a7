use Rattle.std.proofs.Common.{arith}
use Rattle.flow_views.proofs.facts.Sides.{next_there, same_set}
use Rattle.flow_views.proofs.view_program.ViewProgram.point_set.Goals as goal

pub returns-clause-set : goal.returns-clause-set
returns-clause-set c = record {
  point = c.requires.point;
  there = omega (arith, c.requires.table.points, c.requires.shows.1);
  bits = c.requires.table.bits;
  edges = c.edges.ensures;
  next = next_there c.args.self.now c.requires.shown c.args.table.now c.requires.table c.args.point c.requires.shows c.requires.point c.args.side
      c.requires.side c.edges.result.now c.edges.ensures;
}

pub returns-clause-tells : goal.returns-clause-tells
returns-clause-tells c =
    same_set c.args.self.now c.requires.shown c.args.table.now c.requires.table c.args.point c.requires.shows c.requires.point c.args.side c.requires.side
