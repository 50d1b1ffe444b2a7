use Rattle.std.proofs.Common.{◌≡◌, ◌≤◌, ◌<◌}
use Rattle.slice_board.specs.Boards.{IsOf}
use Rattle.flow_queries.specs.code.Boards.{AreDone}
use Rattle.slice_board.specs.Teams.{PostsMore}
use Rattle.flow_queries.proofs.queried.QueriedWords.post_range.Given as goal

abbrev pub invariant-queries : goal.invariant-queries
invariant-queries l = record {
  of : IsOf l.board l.pass;
  more : PostsMore l.fn.pass l.pass;
  solves : l.words ≡ l.initial.words;
  done : AreDone l.self (λ q. (l.from ≤ q) × (q < l.j)) l.pass.posted;
}
