use Rattle.std.proofs.Common.{ℕ, Bool, List, flat_map, if◌then◌else◌, sym, ap}
use Rattle.flow_graph.specs.declared.analysis.Analysis.{Analysis}
use Rattle.flow_reports.specs.Reports.{Knowledge}
use Rattle.flow_views.specs.Dots.{changes_on, label_line, lines_on}
use Rattle.flow_views.specs.code.ViewProgram.{known_of}
use Rattle.flow_views.specs.declared.view.View.{View}
use Rattle.point_sets.specs.declared.side.Side.{Side}
use Rattle.tac_program.specs.Programs.{Program}
use Rattle.text_pieces.proofs.sinks.Taking.{takes_as}
use Rattle.dot_texts.proofs.dots.write_told_on.Goals as goal

-- what changes, or the set
abbrev told : Program → Knowledge → View → ℕ → Analysis → Side → Bool → List ℕ
told program known view point analysis side changes =
    flat_map label_line (if changes then changes_on program known view point analysis side else lines_on program known view point analysis side)

pub returns-then-shown : goal.returns-then-shown
returns-then-shown g c =
    takes_as _ _ _ _ c.write_changes_on.ensures
    (sym (ap
    (told c.args.shown.now.found.graph.now (known_of c.args.shown.now) c.args.shown.now.view c.args.point c.args.table.now.analysis c.args.side)
    c.if-shown.true))

pub returns-else-shown : goal.returns-else-shown
returns-else-shown g c =
    takes_as _ _ _ _ c.write_lines_on.ensures
    (sym (ap
    (told c.args.shown.now.found.graph.now (known_of c.args.shown.now) c.args.shown.now.view c.args.point c.args.table.now.analysis c.args.side)
    c.if-shown.false))
