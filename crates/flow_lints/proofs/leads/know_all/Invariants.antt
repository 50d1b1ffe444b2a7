use Rattle.std.proofs.Common.{◌≡◌, false, fold, get_or, take}
use Rattle.std.specs.List.{filter}
use Rattle.flow_graph.specs.code.Searching.{search_of, with_known}
use Rattle.flow_lints.proofs.leads.know_all.Given as goal

abbrev pub invariant-loop-point : goal.invariant-loop-point
invariant-loop-point l =
    search_of l.known.items l.work.items
    ≡ fold with_known (search_of l.fn.known.items l.fn.work.items) (filter (λ x. get_or l.among x false) (take l.point-index l.points))
