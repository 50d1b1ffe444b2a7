use Rattle.std.proofs.Common.{◌≡◌, ◌<◌, ◌+◌, ◌*◌, ℕ, true, subst}
use Rattle.bit_rows.specs.Words.{has_bit}
use Rattle.flow_graph.specs.Problems.{MayForm}
use Rattle.slice_board.specs.Boards.{BoardState}
use Rattle.flow_team.specs.Sets.{IsInMaySet}
use Rattle.flow_team.proofs.threads.Sent.{sets_cross}
use Rattle.flow_team.proofs.job.Job.look.Goals as goal

pub look-requires-send-W : goal.look-requires-send-W
look-requires-send-W c = λ κs lives. search sets_cross depth 60

pub look-requires-send-S : goal.look-requires-send-S
look-requires-send-S c = λ κs lives. search sets_cross depth 60

pub look-requires-sync-W : goal.look-requires-sync-W
look-requires-sync-W c = λ κs lives. search sets_cross depth 60

pub look-requires-sync-S : goal.look-requires-sync-S
look-requires-sync-S c = λ κs lives. search sets_cross depth 60

pub returns-clause-wanted : goal.returns-clause-wanted
returns-clause-wanted c =
    subst (λ (b : BoardState MayForm). (i : ℕ) → i < 64 → has_bit c.look.result i ≡ true → IsInMaySet b.wanted c.args.point (64 * c.args.word + i))
    c.self.view_is
    c.look.ensures.wanted
