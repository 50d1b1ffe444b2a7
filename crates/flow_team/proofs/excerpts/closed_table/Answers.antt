use Rattle.std.proofs.Common.{◌≡◌, ◌↔◌, ℕ, true, subst}
use Rattle.bit_rows.specs.RowSet.{contains}
use Rattle.bit_rows.specs.RowTable.{set_at}
use Rattle.flow_team.specs.code.Excerpts.{IsInExcerpt, Excerpt}
use Rattle.flow_team.proofs.threads.Sent.{excerpts_cross}
use Rattle.flow_team.proofs.excerpts.closed_table.Goals as goal

pub close-requires-send-W : goal.close-requires-send-W
close-requires-send-W c = λ κs lives. search excerpts_cross depth 60

pub close-requires-send-S : goal.close-requires-send-S
close-requires-send-S c = λ κs lives. search excerpts_cross depth 60

pub close-requires-sync-W : goal.close-requires-sync-W
close-requires-sync-W c = λ κs lives. search excerpts_cross depth 60

pub close-requires-sync-S : goal.close-requires-sync-S
close-requires-sync-S c = λ κs lives. search excerpts_cross depth 60

pub table-requires-clause-rows : goal.table-requires-clause-rows
table-requires-clause-rows c =
    subst (λ (excerpt : Excerpt). (point bit : ℕ) → (contains (set_at c.in-Ok.posted point) bit ≡ true) ↔ IsInExcerpt excerpt point bit)
    c.in-Ok.ensures.on.wanted c.in-Ok.ensures.rows
