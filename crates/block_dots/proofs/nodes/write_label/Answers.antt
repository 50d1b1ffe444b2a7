use Rattle.std.proofs.Common.{◌-◌, List, ℕ, ◌++◌, flat_map, ap₂, not}
use Rattle.std.specs.List.{range_with_len}
use Rattle.flow_reports.specs.Reports.{Knowledge}
use Rattle.text_pieces.proofs.sinks.Taking.{takes_as, takes_then}
use Rattle.tac_program.specs.Programs.{Program}
use Rattle.flow_views.specs.code.ViewProgram.{known_of}
use Rattle.flow_views.specs.Dots.{label_line, label_title, text_if}
use Rattle.block_dots.specs.BlockDots.{facts_in_lines, statement_lines}
use Rattle.block_dots.proofs.nodes.write_label.Goals as goal

pub returns : goal.returns
returns g c =
    let program : Program = c.args.shown.now.found.graph.now in
    let known : Knowledge = known_of c.args.shown.now in
    let leader : ℕ = c.args.block.leader in
    let facts : List ℕ = text_if (not c.args.shown.now.view.look.hovers) (facts_in_lines program known c.args.shown.now.view leader) in
    takes_as _ _ _ _
    (takes_then _ _ _ _ _ (takes_then _ _ _ _ _ c.write_label_lines.ensures c.write_statements.ensures) c.write_label_facts.ensures)
    (ap₂ (λ labels (end : ℕ). flat_map (λ label. label_line (label_title program leader label)) labels
    ++ flat_map (statement_lines program known) (range_with_len leader (end - leader)) ++ facts) c.labels.ensures c.requires.block.ends)
