use Rattle.std.proofs.Common.{◌∙◌, arith}
use Rattle.bit_rows.proofs.words.MaskBits.{low_place}
use Rattle.bit_rows.proofs.masks.word_below.Goals as goal

pub returns : goal.returns
returns c k within = c.low_ones.ensures.places k within ∙ low_place c.args.limit c.args.word c.min.result k within (omega arith)
