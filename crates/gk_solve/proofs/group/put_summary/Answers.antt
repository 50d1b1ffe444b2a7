use Rattle.std.proofs.Common.{arith}
use Rattle.gk_solve.specs.Tables.Groups.{group_of}
use Rattle.gk_solve.proofs.visits.SummaryVisits.{put_spreads}
use Rattle.gk_solve.proofs.group.put_summary.Goals as goal

pub returns-clause-spreads : goal.returns-clause-spreads
returns-clause-spreads g c =
    put_spreads (group_of c.args.frame.now g.row.W) c.args.frame.now.paths.now c.args.table.now c.args.dirty.now c.wake.new.dirty c.args.at
    c.index-table-at.result c.args.more c.joined_summary-after.result.0
    (omega (arith, c.requires.count, c.requires.within)) c.index-table-at.is c.joined_summary-after.ensures.preserved c.joined_summary-after.ensures.generated
    c.wake.ensures.count c.wake.ensures.keeps c.wake.ensures.woken
    (c.joined_summary-after.ensures.less c.if-not-changed.false) c.requires.keeps c.requires.makes
