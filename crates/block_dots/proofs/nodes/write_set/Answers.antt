use Rattle.std.proofs.Common.{◌≡◌, ◌∙◌, ◌-◌, ℕ, map, true, sym, ap, subst, arith}
use Rattle.flow_graph.specs.declared.analysis.Analysis.{Analysis}
use Rattle.flow_views.specs.Views.{known_facts}
use Rattle.flow_views.specs.code.ViewProgram.{known_of}
use Rattle.flow_texts.specs.Tables.{bit_text}
use Rattle.point_sets.specs.Sets.{has_behind, set_on, shown_bits}
use Rattle.point_sets.specs.code.Lines.{set_from}
use Rattle.point_sets.specs.declared.side.Side.TheVariants.{Behind}
use Rattle.tac_program.specs.Programs.{Program}
use Rattle.text_pieces.specs.Strings.{escaped}
use Rattle.text_pieces.proofs.sinks.Taking.{takes_as}
use Rattle.block_dots.specs.BlockDots.{set_names}
use Rattle.block_dots.specs.declared.block_set.BlockSet.{BlockSet}
use Rattle.block_dots.proofs.points.Bounds.{last_behind}
use Rattle.block_dots.proofs.nodes.write_set.Goals as goal

pub write_set_on-requires-in-Out-clause-side : goal.write_set_on-requires-in-Out-clause-side
write_set_on-requires-in-Out-clause-side g c = λ _.
    subst (λ (end : ℕ). has_behind c.args.shown.now.found.graph.now (end - 1) ≡ true) (sym c.requires.block.ends)
    (last_behind c.args.shown.now.found.graph.now c.args.block.leader (omega (arith, c.requires.block.above, c.requires.block.below))
    (c.requires.behind c.in-Out.is))

pub returns-in-Out : goal.returns-in-Out
returns-in-Out g c =
    let program : Program = c.args.shown.now.found.graph.now in
    let analysis : Analysis = c.args.table.now.analysis in
    takes_as _ _ _ _ c.write_set_on-in-Out.ensures
    (ap (λ (end : ℕ). set_from c.args.column (map escaped (map (bit_text program analysis)
    (shown_bits program analysis c.args.shown.now.view.look.hides_entry
    (set_on Behind program analysis (known_facts (known_of c.args.shown.now) analysis) (end - 1)))))) c.requires.block.ends
    ∙ sym (ap (λ (set : BlockSet). set_from c.args.column (map escaped
    (set_names program (known_of c.args.shown.now) c.args.shown.now.view c.args.block.leader analysis set))) c.in-Out.is))
