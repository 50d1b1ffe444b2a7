use Rattle.std.proofs.Common.{◌++◌, codes, decimal, ap₂}
use Rattle.text_pieces.proofs.sinks.Taking.{takes_as, takes_then}
use Rattle.text_pieces.specs.Strings.{quoted}
use Rattle.lint_json.proofs.errors.write_refusal.Goals as goal

pub returns : goal.returns
returns g c =
    let r = c.args.refusal in
    takes_as _ _ _ _
    (takes_then _ _ _ _ _ (takes_then _ _ _ _ _ (takes_then _ _ _ _ _ (takes_then _ _ _ _ _ (takes_then _ _ _ _ _ (takes_then _ _ _ _ _ (takes_then _ _ _ _ _ c.write.ensures c.write_size.ensures) c.write-2.ensures) c.write_size-2.ensures) c.write-3.ensures) c.write_size-3.ensures) c.write-4.ensures) c.write_quoted.ensures)
    (ap₂ (λ number words. codes ",\"line\":" ++ decimal r.line ++ codes ",\"column\":" ++ decimal r.column ++ codes ",\"refusal\":" ++ decimal number
    ++ codes ",\"words\":" ++ quoted words) c.number.ensures c.kind_words.ensures)
