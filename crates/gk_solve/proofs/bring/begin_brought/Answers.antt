use Rattle.std.proofs.Common.{arith}
use Rattle.gk_solve.specs.Tables.Groups.{group_of}
use Rattle.gk_solve.proofs.beginnings.Beginning.{root_sound}
use Rattle.gk_solve.proofs.bring.begin_brought.Goals as goal

pub returns-clause-sound : goal.returns-clause-sound
returns-clause-sound g c =
    let low = c.requires.frame.numbered.formed.root_in_range in
    root_sound g.row.W (group_of c.args.frame.now g.row.W) c.loop-procedure.brought c.root-root.result c.boundary.result
    (omega (arith, low, c.requires.count, c.root-root.ensures)) c.root-root.ensures
    (λ j d within. c.loop-procedure.invariant j d (omega (arith, within, c.loop-procedure-test.false))) c.boundary.ensures
