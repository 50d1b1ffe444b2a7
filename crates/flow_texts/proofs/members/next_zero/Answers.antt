use Rattle.std.proofs.Common.{◌≡◌, Bool, true, false, not, ap, sym, ◌∙◌, arith}
use Rattle.bit_rows.proofs.words.WordBits.{has_bit-not}
use Rattle.flow_texts.proofs.members.next_zero.Goals as goal

opposite : (a b c : Bool) → b ≡ not a → b ≡ c → a ≡ not c
opposite true b c is same = ap not (sym is ∙ same)
opposite false b c is same = ap not (sym is ∙ same)

pub returns-clause-before : goal.returns-clause-before
returns-clause-before c k above below =
    opposite _ _ _ (has_bit-not c.args.word k c.ranges.word.fits (omega (arith, below, c.next_one.ensures.within)))
    (c.next_one.ensures.before k above below)

pub returns-clause-zero : goal.returns-clause-zero
returns-clause-zero c below = opposite _ _ _ (has_bit-not c.args.word c.next_one.result c.ranges.word.fits below) (c.next_one.ensures.one below)
