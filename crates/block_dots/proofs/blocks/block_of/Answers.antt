use Rattle.std.proofs.Common.{ℕ, arith}
use Rattle.tac_program.specs.Programs.{Program}
use Rattle.block_dots.proofs.points.Bounds.{block_below, block_bounds, block_shown}
use Rattle.block_dots.proofs.blocks.block_of.Goals as goal

pub returns-clause-block : goal.returns-clause-block
returns-clause-block c =
    let program : Program = c.args.shown.now.found.graph.now in
    let leader : ℕ = c.args.leader in
    record {
      above = omega (arith, (block_bounds program leader c.requires.leader).0, c.block_end-end.ensures);
      ends = c.block_end-end.ensures;
      below = omega (arith, block_below program leader c.requires.leader, c.block_end-end.ensures);
      shows = λ point from to.
          block_shown program c.args.shown.now.view.procedure c.requires.shown.procedure leader c.requires.leader c.requires.shows point from
          (omega (arith, to, c.block_end-end.ensures));
    }
