-- That the sets of a graph may go to any thread, and be shared by several: their parts first, since one search over all of them is too large.
use denote.Ref.{NamedLft}
use denote.Param.Send.{IsSend, IsSync, sendable}
use Rattle.std.proofs.Crossing.{crosses}
use Rattle.tac_program.specs.contracts.program.Program as Program
use Rattle.flow_graph.specs.contracts.graph.Graph as Graph
use Rattle.gen_kill.specs.contracts.problem.Problem as Problem
use Rattle.flow_links.specs.contracts.links.Links as Links
use Rattle.gk_solve.specs.contracts.routes.Routes as Routes
use Rattle.gk_solve.specs.contracts.solver.Solver as Solver
use Rattle.worklist.specs.contracts.order.Order as Order
use Rattle.slice_board.proofs.slice_job.SliceJob.TheSendSync.{the_sync as jobs_sync}
use Rattle.flow_team.specs.contracts.job.Job as Job
use Rattle.flow_team.specs.contracts.excerpts.ExcerptSets as ExcerptSets
use Rattle.flow_team.specs.contracts.sets.GraphSets as GraphSets

program_sync : IsSync Program.the_row
program_sync = search (crosses, sendable) depth 60 fits 5000

pub graph_sync : (p : NamedLft) → IsSync (Graph.the_row p)
graph_sync p = search (program_sync, crosses, sendable) depth 60 fits 5000

problem_send : (g p : NamedLft) → IsSend (Problem.the_row g p)
problem_send g p = search (graph_sync, crosses, sendable) depth 60 fits 5000

problem_sync : (g p : NamedLft) → IsSync (Problem.the_row g p)
problem_sync g p = search (graph_sync, crosses, sendable) depth 60 fits 5000

order_send : IsSend Order.the_row
order_send = search (crosses, sendable) depth 60

order_sync : IsSync Order.the_row
order_sync = search (crosses, sendable) depth 60

links_send : IsSend Links.the_row
links_send = search (order_send, crosses, sendable) depth 60 fits 5000

links_sync : IsSync Links.the_row
links_sync = search (order_sync, crosses, sendable) depth 60 fits 5000

pub routes_send : IsSend Routes.the_row
routes_send = search (links_send, crosses, sendable) depth 60

pub routes_sync : IsSync Routes.the_row
routes_sync = search (links_sync, crosses, sendable) depth 60

pub solver_send : (g p : NamedLft) → IsSend (Solver.the_row g p)
solver_send g p = search (problem_send, crosses, sendable) depth 60 fits 5000

pub solver_sync : (g p : NamedLft) → IsSync (Solver.the_row g p)
solver_sync g p = search (problem_sync, crosses, sendable) depth 60 fits 5000

pub sets_send : (g p : NamedLft) → IsSend (GraphSets.the_row g p)
sets_send g p = search (routes_send, solver_send, crosses, sendable) depth 60 fits 5000

pub sets_sync : (g p : NamedLft) → IsSync (GraphSets.the_row g p)
sets_sync g p = search (routes_sync, solver_sync, crosses, sendable) depth 60 fits 5000

pub ruleset sets_cross = (sets_send, sets_sync, crosses, sendable)

pub excerpt_send : (g p : NamedLft) → IsSend (ExcerptSets.the_row g p)
excerpt_send g p = search (sets_send, crosses, sendable) depth 60 fits 5000

pub excerpt_sync : (g p : NamedLft) → IsSync (ExcerptSets.the_row g p)
excerpt_sync g p = search (sets_sync, crosses, sendable) depth 60 fits 5000

pub ruleset excerpts_cross = (excerpt_send, excerpt_sync, crosses, sendable)

-- So a caller may lend a job to threads of its own.
pub job_sync : (g p : NamedLft) → IsSync (Job.the_row g p)
job_sync g p = search (jobs_sync, sets_cross) depth 60 fits 5000

pub ruleset jobs_cross = (job_sync, crosses, sendable)
