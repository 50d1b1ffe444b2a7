use Rattle.std.proofs.Common.{◌++◌, codes, ap}
use Rattle.text_pieces.proofs.sinks.Taking.{takes_as, takes_then}
use Rattle.text_pieces.specs.Strings.{quoted}
use Rattle.lint_json.proofs.remarks.write_words.Goals as goal

pub returns : goal.returns
returns g c =
    takes_as _ _ _ _ (takes_then _ _ _ _ _ (takes_then _ _ _ _ _ (takes_then _ _ _ _ _ c.write.ensures c.write_quoted.ensures) c.write-2.ensures) c.write_quoted-2.ensures)
    (ap (λ k. codes ",\"kind\":" ++ quoted k ++ codes ",\"words\":" ++ quoted c.args.words.now) c.kind_name.ensures)
