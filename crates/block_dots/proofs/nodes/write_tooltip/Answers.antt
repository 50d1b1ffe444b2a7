use Rattle.std.proofs.Common.{List, ℕ, ◌++◌, codes, sym, ap}
use Rattle.text_pieces.proofs.sinks.Taking.{takes_as, takes_then}
use Rattle.flow_views.specs.Dots.{text_if}
use Rattle.block_dots.specs.BlockDots.{facts_in_lines}
use Rattle.flow_views.specs.code.ViewProgram.{known_of}
use Rattle.block_dots.proofs.nodes.write_tooltip.Goals as goal

pub returns : goal.returns
returns g c =
    let facts : List ℕ = facts_in_lines c.args.shown.now.found.graph.now (known_of c.args.shown.now) c.args.shown.now.view c.args.block.leader in
    takes_as _ _ _ _ (takes_then _ _ _ _ _ (takes_then _ _ _ _ _ c.write.ensures c.write_facts.ensures) c.write-2.ensures)
    (sym (ap (λ is. text_if is (codes ", tooltip=\"" ++ facts ++ codes "\"")) c.if-not-shown.false))
