use Rattle.std.proofs.Common.{◌∙◌, length, sym, ap, subst}
use Rattle.bit_rows.specs.RowTable.{RowTable}
use Rattle.bit_rows.specs.Slices.{Slices}
use Rattle.gk_solve.specs.Solved.{HasPathFlags}
use Rattle.flow_team.proofs.threads.Sent.{sets_cross}
use Rattle.flow_team.proofs.job.Job.of_sets.Goals as goal

pub on_board-slices-requires-send-W : goal.on_board-slices-requires-send-W
on_board-slices-requires-send-W c = λ κs lives. search sets_cross depth 60

pub on_board-slices-requires-send-S : goal.on_board-slices-requires-send-S
on_board-slices-requires-send-S c = λ κs lives. search sets_cross depth 60

pub on_board-slices-requires-sync-W : goal.on_board-slices-requires-sync-W
on_board-slices-requires-sync-W c = λ κs lives. search sets_cross depth 60

pub on_board-slices-requires-sync-S : goal.on_board-slices-requires-sync-S
on_board-slices-requires-sync-S c = λ κs lives. search sets_cross depth 60

pub on_board-slices-requires-after_bounds : goal.on_board-slices-requires-after_bounds
on_board-slices-requires-after_bounds c κs lives =
    let laid = c.in_ok-board.ensures in
    let flags = c.in_ok-flags.ensures in
    record {
      wanted = laid.wanted;
      points = ap (λ (t : RowTable). length t.flags) laid.blank ∙ flags.count;
      bits = ap (λ (cut : Slices). cut.bits) laid.cut ∙ c.requires;
      paths = subst (λ (t : RowTable). HasPathFlags c.args.sets t.flags) (sym laid.blank) flags;
    }
