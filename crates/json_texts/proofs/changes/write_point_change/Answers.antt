use Rattle.std.proofs.Common.{ap}
use Rattle.flow_graph.specs.declared.analysis.Analysis.{Analysis}
use Rattle.flow_team.specs.Tables.{Facts, TableFacts}
use Rattle.flow_views.specs.Views.{known_facts}
use Rattle.flow_views.specs.code.ViewProgram.{known_of}
use Rattle.json_texts.proofs.told.Fields.{same_fields}
use Rattle.point_sets.specs.Changes.{set_ahead}
use Rattle.point_sets.specs.code.Changes.{old_set, told_by}
use Rattle.point_sets.specs.declared.change.Change.{Change}
use Rattle.tac_program.specs.Programs.{Program}
use Rattle.text_pieces.proofs.sinks.Taking.{takes_as}
use Rattle.json_texts.proofs.changes.write_point_change.Goals as goal

pub returns : goal.returns
returns g c =
    let program : Program = c.args.shown.now.found.graph.now in
    let analysis : Analysis = c.args.table.now.analysis in
    let facts : Facts = known_facts (known_of c.args.shown.now) analysis in
    let change : Change = c.change-change.result in
    takes_as _ _ _ _ c.write_change.ensures
    (same_fields program change.new.table.now.analysis analysis (old_set change) (set_ahead program facts c.args.point) (told_by change.new)
    (facts.contains c.args.point) (ap (λ (t : TableFacts). t.analysis) c.change-change.ensures.table)
    c.change-change.ensures.old c.change-change.ensures.new)
