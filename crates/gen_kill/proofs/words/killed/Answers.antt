use Rattle.std.proofs.Common.{◌&&◌, w64, sym, ap, ◌∙◌}
use Rattle.std.specs.Int.{bit_not}
use Rattle.bit_rows.specs.Words.{has_bit}
use Rattle.bit_rows.proofs.words.WordBits.{has_bit-and, has_bit-not}
use Rattle.gen_kill.specs.code.Effects.{kill_from}
use Rattle.gen_kill.proofs.words.killed.Goals as goal

pub returns-in-Reach : goal.returns-in-Reach
returns-in-Reach c k within =
    has_bit-and c.args.touched (bit_not w64 c.args.own) k
    ∙ ap (λ t. has_bit c.args.touched k && t) (has_bit-not c.args.own k c.ranges.own.fits within)
    ∙ ap (λ a. kill_from a (has_bit c.args.own k) (has_bit c.args.touched k)) (sym c.in-Reach.is)

pub returns-in-Avail : goal.returns-in-Avail
returns-in-Avail c k within =
    has_bit-and c.args.own (bit_not w64 c.args.touched) k
    ∙ ap (λ t. has_bit c.args.own k && t) (has_bit-not c.args.touched k c.ranges.touched.fits within)
    ∙ ap (λ a. kill_from a (has_bit c.args.own k) (has_bit c.args.touched k)) (sym c.in-Avail.is)
