use Rattle.std.proofs.Common.{◌++◌, codes, decimal, ap₂}
use Rattle.lint_json.specs.LintJson.{line_begin}
use Rattle.lint_json.specs.RefusalJson.{boolean}
use Rattle.text_pieces.proofs.sinks.Taking.{takes_as, takes_then}
use Rattle.lint_json.proofs.ends.ErrorsTextText.write.Goals as goal

pub returns : goal.returns
returns g c =
    takes_as _ _ _ _
    (takes_then _ _ _ _ _ (takes_then _ _ _ _ _ (takes_then _ _ _ _ _ (takes_then _ _ _ _ _ (takes_then _ _ _ _ _ c.write_begin.ensures c.write.ensures) c.write_size.ensures) c.write-2.ensures) c.write_boolean.ensures) c.write-3.ensures)
    (ap₂ (λ count is. line_begin (codes "end") c.args.self.now.name.now ++ codes ",\"errors\":" ++ decimal count
    ++ codes ",\"first\":" ++ boolean is ++ codes "}\n") c.min.ensures c.has_more.ensures)
