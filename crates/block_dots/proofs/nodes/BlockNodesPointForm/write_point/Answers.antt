use Rattle.std.proofs.Common.{◌∙◌, ℕ, Bool, List, [], if◌then◌else◌, sym, ap}
use Rattle.flow_views.specs.code.ViewProgram.{known_of}
use Rattle.tac_program.specs.Programs.{Program}
use Rattle.text_pieces.proofs.sinks.Taking.{takes_as}
use Rattle.block_dots.specs.BlockDots.{block_node}
use Rattle.block_dots.proofs.nodes.BlockNodesPointForm.write_point.Goals as goal

pub returns : goal.returns
returns g c =
    let program : Program = c.args.shown.now.found.graph.now in
    let node : ℕ → List ℕ = block_node program (known_of c.args.shown.now) c.args.shown.now.view in
    takes_as _ _ _ _ c.write_node.ensures
    (ap node c.block_of.ensures.leader
    ∙ sym (ap (λ (b : Bool). if b then node c.args.point else []) (sym c.is_leader.ensures ∙ c.if-not-is_leader.false)))
