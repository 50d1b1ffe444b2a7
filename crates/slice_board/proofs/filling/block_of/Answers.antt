use Rattle.std.proofs.Common.{◌∙◌, arith, length-set}
use Rattle.slice_board.proofs.words.Sums.{copied}
use Rattle.slice_board.proofs.filling.block_of.Goals as goal

pub loop-k-preserved : goal.loop-k-preserved
loop-k-preserved c =
    let i = c.loop-k.invariant in
    let size = i.size in
    record {
      size = length-set c.loop-k.block c.loop-k.k c.word.result ∙ i.size;
      so_far = copied c.loop-k.block _ c.args.from c.args.apart c.loop-k.k c.word.result (omega arith) c.word.ensures i.so_far;
    }
