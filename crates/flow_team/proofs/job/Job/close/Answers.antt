use Rattle.std.proofs.Common.{◌≡◌, ◌↔◌, ◌<◌, ℕ, true, subst}
use Rattle.bit_rows.specs.RowSet.{contains}
use Rattle.bit_rows.specs.RowTable.{set_at}
use Rattle.flow_graph.specs.Problems.{MayForm}
use Rattle.slice_board.specs.Boards.{BoardState, slice_count}
use Rattle.flow_team.specs.Sets.{IsInMaySet}
use Rattle.flow_team.proofs.threads.Sent.{sets_cross}
use Rattle.flow_team.proofs.job.Job.close.Goals as goal

pub close-requires-send-S : goal.close-requires-send-S
close-requires-send-S c = λ κs lives. search sets_cross depth 60

pub close-requires-sync-S : goal.close-requires-sync-S
close-requires-sync-S c = λ κs lives. search sets_cross depth 60

pub close-requires-send-W : goal.close-requires-send-W
close-requires-send-W c = λ κs lives. search sets_cross depth 60

pub close-requires-sync-W : goal.close-requires-sync-W
close-requires-sync-W c = λ κs lives. search sets_cross depth 60

pub table-requires-clause-rows : goal.table-requires-clause-rows
table-requires-clause-rows c =
    subst (λ (form : MayForm). (point bit : ℕ) → (contains (set_at c.in-Ok.posted point) bit ≡ true) ↔ IsInMaySet form point bit)
    c.in-Ok.ensures.on.wanted c.in-Ok.ensures.rows

pub returns-in-Err-clause-all_finished : goal.returns-in-Err-clause-all_finished
returns-in-Err-clause-all_finished c = λ all.
    c.in-Err.ensures.all_finished (λ s below. all s (subst (λ (b : BoardState MayForm). s < slice_count b.cut) c.self.view_is below))
