use Rattle.std.proofs.Common.{◌<◌, ◌^◌, get_or, arith}
use Rattle.worklist.proofs.words.MarkLemmas.{masked_marked}
use Rattle.worklist.proofs.worklist.first_marked.Goals as goal

pub returns-then-rank-to : goal.returns-then-rank-to
returns-then-rank-to c =
    let word = c.type_inv.words c.loop-at.at in
    let fits : get_or c.args.words.now c.loop-at.at 0 < 2 ^ 64 = omega (arith, word) in
    masked_marked c.args.words.now c.loop-at.at c.loop-at.mask c.if-word-ne0.true fits
