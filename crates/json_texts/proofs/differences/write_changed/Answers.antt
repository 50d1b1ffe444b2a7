use Rattle.std.proofs.Common.{List, ℕ, false, ◌++◌, codes, map, filter, ap, ◌∙◌}
use Rattle.std.specs.List.{range_with_len}
use Rattle.text_pieces.specs.code.Lists.{after, text_at}
use Rattle.text_pieces.proofs.sinks.Taking.{takes_as, takes_then}
use Rattle.flow_views.proofs.texts.Rows.{after-joined}
use Rattle.point_sets.specs.code.Changes.{changed}
use Rattle.json_texts.proofs.differences.write_changed.Goals as goal

pub returns : goal.returns
returns g c =
    let texts : List (List ℕ) =
    map (text_at c.args.texts.now.texts) (filter (changed c.args.change.now c.args.came) (range_with_len 0 c.args.bits)) in
    takes_as _ _ _ _ (takes_then _ _ _ _ _ (takes_then _ _ _ _ _ c.write.ensures c.write_bits.ensures.written) c.write-2.ensures)
    (ap (λ b. codes "[" ++ after b false texts ++ codes "]") c.requires.commas
    ∙ ap (λ t. codes "[" ++ t ++ codes "]") (after-joined (codes ",") texts))
