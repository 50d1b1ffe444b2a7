use Rattle.std.proofs.Common.{◌++◌, codes, ap, ◌∙◌}
use Rattle.lint_json.specs.LintJson.{line_begin, lint_name, place_fields, procedure_field, words_fields}
use Rattle.lint_texts.specs.code.Lines.{reached_in}
use Rattle.text_pieces.proofs.sinks.Taking.{takes_as, takes_then}
use Rattle.lint_json.proofs.remarks.RemarkTextText.write.Goals as goal

pub returns : goal.returns
returns g c =
    let self = c.self.inside in
    let lines = self.lines.now in
    let program = lines.graph.now in
    let placed = self.placed in
    takes_as _ _ _ _
    (takes_then _ _ _ _ _ (takes_then _ _ _ _ _ (takes_then _ _ _ _ _ (takes_then _ _ _ _ _ (takes_then _ _ _ _ _ c.write_begin.ensures c.write_place.ensures) c.write_words.ensures) c.write_name.ensures) c.write_procedure.ensures) c.write.ensures)
    (ap (λ start. line_begin (codes "remark") self.name.now ++ place_fields lines.file.text.now start ++ words_fields placed.lint self.words.now
    ++ lint_name program (reached_in lines) placed.point placed.lint ++ procedure_field program placed.point ++ codes "}\n") c.told_start.ensures
    ∙ c.self.view_is)
