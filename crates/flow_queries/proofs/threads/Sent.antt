-- That what is asked of a graph may go to any thread, and be shared by several: its parts first, since one search over all of them is too large.
use denote.Ref.{NamedLft}
use denote.Param.Send.{IsSend, IsSync, sendable}
use Rattle.std.proofs.Crossing.{crosses}
use Rattle.flow_team.proofs.threads.Sent.{graph_sync, routes_send, routes_sync, solver_send, solver_sync}
use Rattle.flow_queries.specs.contracts.queried.QueriedWords as QueriedWords
use Rattle.flow_queries.specs.contracts.direction.DirectionSolvers as DirectionSolvers
use Rattle.flow_queries.specs.contracts.solvers.GraphSolvers as GraphSolvers

pub direction_send : (g p : NamedLft) → IsSend (DirectionSolvers.the_row g p)
direction_send g p = search (graph_sync, routes_send, solver_send, crosses, sendable) depth 60 fits 5000

direction_sync : (g p : NamedLft) → IsSync (DirectionSolvers.the_row g p)
direction_sync g p = search (graph_sync, routes_sync, solver_sync, crosses, sendable) depth 60 fits 5000

pub ruleset directions_cross = (graph_sync, direction_send, crosses, sendable)

solvers_send : (g p : NamedLft) → IsSend (GraphSolvers.the_row g p)
solvers_send g p = search (direction_send, crosses, sendable) depth 60 fits 5000

solvers_sync : (g p : NamedLft) → IsSync (GraphSolvers.the_row g p)
solvers_sync g p = search (direction_sync, crosses, sendable) depth 60 fits 5000

pub queried_send : (g p : NamedLft) → IsSend (QueriedWords.the_row g p)
queried_send g p = search (solvers_send, solver_send, crosses, sendable) depth 60 fits 5000

pub queried_sync : (g p : NamedLft) → IsSync (QueriedWords.the_row g p)
queried_sync g p = search (solvers_sync, solver_sync, crosses, sendable) depth 60 fits 5000

pub ruleset queried_cross = (queried_send, queried_sync, crosses, sendable)
