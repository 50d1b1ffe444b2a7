use Rattle.std.proofs.Common.{List, ℕ, map, ap}
use Rattle.text_pieces.proofs.sinks.Taking.{takes_as, takes_then}
use Rattle.text_pieces.specs.Strings.{quoted}
use Rattle.tac_program.specs.Programs.{Program}
use Rattle.tac_program.specs.declared.program.Label.{Label}
use Rattle.flow_views.specs.Json.{array}
use Rattle.flow_views.specs.Views.{label_name}
use Rattle.json_texts.proofs.outlines.write_point_front.Goals as goal

pub returns : goal.returns
returns g c =
    let program : Program = c.args.outline.now.graph.now in
    let point : ℕ = c.args.outline.now.point in
    takes_then _ _ _ _ _ (takes_then _ _ _ _ _ (takes_then _ _ _ _ _ (takes_then _ _ _ _ _ (takes_then _ _ _ _ _ c.write.ensures
    (takes_as _ _ _ _ c.write_labels.ensures
    (ap (λ (ls : List Label). array (map (λ label. quoted (label_name program point label)) ls)) c.labels_of.ensures)))
    c.write-2.ensures) c.write_statement_or_null.ensures) c.write-3.ensures) c.write_boolean.ensures
