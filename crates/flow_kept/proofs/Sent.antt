-- That what is kept may go to any thread, and be shared by several: its parts first, since one search over all of them is too large.
use denote.Param.Send.{IsSend, IsSync, sendable}
use Rattle.std.proofs.Crossing.{crosses}
use Rattle.tac_program.specs.contracts.program.Program as Program
use Rattle.flow_links.specs.contracts.links.Links as Links
use Rattle.gk_solve.specs.contracts.routes.Routes as Routes
use Rattle.worklist.specs.contracts.order.Order as Order
use Rattle.flow_kept.specs.contracts.kept.Kept as Kept
use Rattle.flow_kept.specs.contracts.shared.Shared as Shared

program_send : IsSend Program.the_row
program_send = search (crosses, sendable) depth 60 fits 5000

program_sync : IsSync Program.the_row
program_sync = search (crosses, sendable) depth 60 fits 5000

order_send : IsSend Order.the_row
order_send = search (crosses, sendable) depth 60

order_sync : IsSync Order.the_row
order_sync = search (crosses, sendable) depth 60

links_send : IsSend Links.the_row
links_send = search (order_send, crosses, sendable) depth 60 fits 5000

links_sync : IsSync Links.the_row
links_sync = search (order_sync, crosses, sendable) depth 60 fits 5000

routes_send : IsSend Routes.the_row
routes_send = search (links_send, crosses, sendable) depth 60

routes_sync : IsSync Routes.the_row
routes_sync = search (links_sync, crosses, sendable) depth 60

pub kept_send : IsSend Kept.the_row
kept_send = search (program_send, routes_send, crosses, sendable) depth 60 fits 5000

pub kept_sync : IsSync Kept.the_row
kept_sync = search (program_sync, routes_sync, crosses, sendable) depth 60 fits 5000

pub shared_send : IsSend Shared.the_row
shared_send = search (kept_send, kept_sync, crosses, sendable) depth 60 fits 5000

pub shared_sync : IsSync Shared.the_row
shared_sync = search (kept_send, kept_sync, crosses, sendable) depth 60 fits 5000
