use Rattle.std.proofs.Common.{◌≡◌, ◌↔◌, ℕ, true, subst}
use Rattle.bit_rows.specs.RowSet.{contains}
use Rattle.bit_rows.specs.RowTable.{set_at}
use Rattle.flow_queries.specs.code.Boards.{Queried, IsWanted}
use Rattle.flow_queries.proofs.threads.Sent.{queried_cross}
use Rattle.flow_queries.proofs.queried_job.answers_of.Goals as goal

pub close-requires-send-W : goal.close-requires-send-W
close-requires-send-W c = λ κs lives. search queried_cross depth 60

pub close-requires-send-S : goal.close-requires-send-S
close-requires-send-S c = λ κs lives. search queried_cross depth 60

pub close-requires-sync-W : goal.close-requires-sync-W
close-requires-sync-W c = λ κs lives. search queried_cross depth 60

pub close-requires-sync-S : goal.close-requires-sync-S
close-requires-sync-S c = λ κs lives. search queried_cross depth 60

pub of-requires-clause-rows : goal.of-requires-clause-rows
of-requires-clause-rows c =
    subst (λ (queried : Queried). (point bit : ℕ) → (contains (set_at c.in-Ok.posted point) bit ≡ true) ↔ IsWanted queried point bit)
    c.in-Ok.ensures.on.wanted c.in-Ok.ensures.rows
