use Rattle.std.proofs.Common.{◌&&◌, not, nat_eq}
use Rattle.std.specs.List.{list_any}
use Rattle.flow_rounds.specs.Rounds.{is_return_to}
use Rattle.flow_rounds.specs.code.Frames.{TellsColumn, has_path_within}
use Rattle.flow_rounds.proofs.lists.Columns.{upto}
use Rattle.flow_rounds.proofs.frame.computed_points.Given as goal

abbrev pub invariant-loop-point : goal.invariant-loop-point
invariant-loop-point l =
    TellsColumn (upto l.points.first l.point) (λ point. has_path_within l.points l.table point && not (nat_eq point l.entry)
    && not (list_any (is_return_to point) l.edges)) l.computed.items
