use Rattle.std.proofs.Common.{◌≡◌, ◌∙◌, ℕ, Bool, List, ◌++◌, codes, ap, ap₂}
use Rattle.flow_graph.specs.declared.analysis.Analysis.{Analysis}
use Rattle.flow_team.specs.Tables.{Facts}
use Rattle.flow_views.specs.Json.{boolean}
use Rattle.flow_views.specs.Views.{analysis_name, known_facts}
use Rattle.flow_views.specs.code.ViewProgram.{known_of}
use Rattle.json_texts.specs.Changes.{behind_changes, change_fields}
use Rattle.point_sets.specs.Changes.{set_ahead}
use Rattle.tac_program.specs.Programs.{Program}
use Rattle.text_pieces.proofs.sinks.Taking.{takes_as, takes_then}
use Rattle.json_texts.proofs.changes.write_changes_field.Goals as goal

pub returns : goal.returns
returns g c =
    let program : Program = c.args.shown.now.found.graph.now in
    let analysis : Analysis = c.args.table.now.analysis in
    let facts : Facts = known_facts (known_of c.args.shown.now) analysis in
    let point : ℕ = c.args.point in
    let named : c.analysis_name.result.now ≡ analysis_name analysis = c.analysis_name.ensures ∙ ap analysis_name c.analysis.ensures in
    let path : c.has_path.result ≡ facts.has_path point = c.has_path.ensures ∙ (c.requires.table.tells point c.requires.shows).path in
    takes_as _ _ _ _
    (takes_then _ _ _ _ _ (takes_then _ _ _ _ _ (takes_then _ _ _ _ _ (takes_then _ _ _ _ _ (takes_then _ _ _ _ _ (takes_then _ _ _ _ _
    (takes_then _ _ _ _ _ (takes_then _ _ _ _ _ c.write.ensures c.write-2.ensures)
    c.write-3.ensures) c.write_boolean.ensures) c.write-4.ensures) c.write_point_change.ensures)
    c.write-5.ensures) c.write_behind_changes.ensures) c.write-6.ensures)
    (ap₂ (λ (name : List ℕ) (has : Bool). codes ",\"" ++ name ++ codes "\":{\"path\":" ++ boolean has
    ++ codes "," ++ change_fields program analysis (set_ahead program facts point) (facts.contains point)
    ++ codes ",\"behind\":" ++ behind_changes program analysis facts point ++ codes "}") named path)
