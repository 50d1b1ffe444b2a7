use Rattle.tac_reader.specs.code.SectionViews.{lines_view}
use Rattle.tac_reader.proofs.programs.LabelRuns.{labels_rise}
use Rattle.tac_reader.proofs.procedure.procedure.Goals as goal

pub new-requires : goal.new-requires
new-requires c =
    labels_rise c.in_ok-places.places.items (lines_view c.args.cursor.now c.args.own.section.lines) (c.in_ok-places.ensures c.args.cursor.now)
