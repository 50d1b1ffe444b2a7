use Rattle.std.proofs.Common.{◌++◌, ap, ◌∙◌}
use Rattle.lint_json.specs.LintJson.{end_line, wanted_untold}
use Rattle.text_pieces.proofs.sinks.Taking.{takes_as, takes_then}
use Rattle.lint_json.proofs.ends.EndTextText.write.Goals as goal

pub returns : goal.returns
returns g c =
    let lines = c.self.inside.lines.now in
    let name = c.self.inside.name.now in
    takes_as _ _ _ _ (takes_then _ _ _ _ _ c.write_wanted.ensures c.write_end.ensures)
    (ap (λ n. wanted_untold name lines.file.text.now lines.telling lines.graph.now lines.linted.now ++ end_line name n) c.told_count.ensures
    ∙ c.self.view_is)
