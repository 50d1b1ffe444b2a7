use Rattle.std.proofs.Common.{◌&&◌, ap₂, ◌∙◌, w64}
use Rattle.std.specs.Int.{bit_not}
use Rattle.bit_rows.proofs.words.WordBits.{has_bit-and, has_bit-not}
use Rattle.bit_rows.proofs.masks.complement_within.Goals as goal

pub returns : goal.returns
returns c k within =
    has_bit-and (bit_not w64 c.args.set) c.word_within.result k
    ∙ ap₂ ◌&&◌ (has_bit-not c.args.set k c.ranges.set.fits within) (c.word_within.ensures.places k within)
