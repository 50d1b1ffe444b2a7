use Rattle.flow_team.proofs.threads.Sent.{excerpts_cross}
use Rattle.flow_team.proofs.excerpts.on_board.Goals as goal

pub on_board-requires-send-W : goal.on_board-requires-send-W
on_board-requires-send-W c = λ κs lives. search excerpts_cross depth 60

pub on_board-requires-send-S : goal.on_board-requires-send-S
on_board-requires-send-S c = λ κs lives. search excerpts_cross depth 60

pub on_board-requires-sync-W : goal.on_board-requires-sync-W
on_board-requires-sync-W c = λ κs lives. search excerpts_cross depth 60

pub on_board-requires-sync-S : goal.on_board-requires-sync-S
on_board-requires-sync-S c = λ κs lives. search excerpts_cross depth 60
