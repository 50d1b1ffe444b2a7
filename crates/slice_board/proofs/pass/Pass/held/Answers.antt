use Rattle.std.proofs.Common.{◌∙◌, ap}
use Rattle.slice_board.specs.Passes.{PassState}
use Rattle.slice_board.specs.code.Fields.{pass_state}
use Rattle.slice_board.proofs.passes.Passing.{held_low, if_some}
use Rattle.slice_board.proofs.pass.Pass.held.Goals as goal

pub returns-clause-there : goal.returns-clause-there
returns-clause-there g c =
    let p = c.self.inside in
    if_some p.held (λ s is about knows. (held_low (pass_state p.seat.table_id p.seat.me.0 p.held p.next) about s c.self.invariant.0
    (ap (λ (q : PassState _). q.about) c.self.view_is ∙ knows) is).0)
