use Rattle.std.proofs.Common.{◌++◌, codes, ap, ◌∙◌}
use Rattle.lint_json.specs.LintJson.{line_begin, place_fields, procedure_field}
use Rattle.text_pieces.specs.Strings.{quoted}
use Rattle.text_pieces.proofs.sinks.Taking.{takes_as, takes_then}
use Rattle.lint_json.proofs.notes.NoteTextText.write.Goals as goal

pub returns : goal.returns
returns g c =
    let self = c.self.inside in
    let lines = self.lines.now in
    takes_as _ _ _ _
    (takes_then _ _ _ _ _ (takes_then _ _ _ _ _ (takes_then _ _ _ _ _ (takes_then _ _ _ _ _ (takes_then _ _ _ _ _ c.write_begin.ensures c.write_place.ensures) c.write.ensures) c.write_quoted.ensures) c.write_procedure.ensures) c.write-2.ensures)
    (ap (λ start. line_begin self.kind.now self.name.now ++ place_fields lines.file.text.now start ++ codes ",\"words\":" ++ quoted self.words.now
    ++ procedure_field lines.graph.now self.point ++ codes "}\n") c.point_start.ensures
    ∙ c.self.view_is)
