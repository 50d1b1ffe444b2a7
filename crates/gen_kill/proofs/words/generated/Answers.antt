use Rattle.std.proofs.Common.{◌&&◌, w64, sym, ap, ◌∙◌}
use Rattle.std.specs.Int.{bit_not}
use Rattle.bit_rows.specs.Words.{has_bit}
use Rattle.bit_rows.proofs.words.WordBits.{has_bit-and, has_bit-not}
use Rattle.gen_kill.specs.code.Effects.{gen_from}
use Rattle.gen_kill.proofs.words.generated.Goals as goal

pub returns-in-Busy : goal.returns-in-Busy
returns-in-Busy c k within =
    has_bit-and c.args.touched (bit_not w64 c.args.own) k
    ∙ ap (λ t. has_bit c.args.touched k && t) (has_bit-not c.args.own k c.ranges.own.fits within)
    ∙ ap (λ a. gen_from a (has_bit c.args.own k) (has_bit c.args.touched k)) (sym c.in-Busy.is)
