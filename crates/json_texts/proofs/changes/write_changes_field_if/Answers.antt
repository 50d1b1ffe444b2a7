use Rattle.std.proofs.Common.{◌∙◌, ap}
use Rattle.text_pieces.proofs.sinks.Taking.{takes_as}
use Rattle.tac_program.specs.Programs.{Program}
use Rattle.flow_views.specs.Views.{is_chosen}
use Rattle.flow_views.specs.code.ViewProgram.{known_of}
use Rattle.flow_reports.specs.Reports.{Knowledge}
use Rattle.flow_views.proofs.facts.Tables.{one_chosen}
use Rattle.json_texts.specs.Changes.{changes_field}
use Rattle.json_texts.proofs.changes.write_changes_field_if.Goals as goal

pub returns : goal.returns
returns g c =
    let program : Program = c.args.shown.now.found.graph.now in
    let known : Knowledge = known_of c.args.shown.now in
    takes_as _ _ _ _ c.write_changes_field.ensures
    (ap (changes_field program known c.args.point) c.in-Some.ensures.analysis
    ∙ one_chosen (changes_field program known c.args.point) (is_chosen c.args.shown.now.view.facts c.args.analysis) c.args.analysis
    c.in-Some.ensures.some)
