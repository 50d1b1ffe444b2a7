use Rattle.std.proofs.Common.{◌<◌, ◌^◌, get_or, arith}
use Rattle.worklist.proofs.words.MarkLemmas.{lowest_marked}
use Rattle.worklist.proofs.worklist.lowest_marked.Goals as goal

pub returns-then-word-ne0 : goal.returns-then-word-ne0
returns-then-word-ne0 c =
    let word = c.type_inv.words c.loop-at.at in
    let fits : get_or c.args.words.now c.loop-at.at 0 < 2 ^ 64 = omega (arith, word) in
    lowest_marked c.args.words.now c.loop-at.at c.if-word-ne0.true fits
