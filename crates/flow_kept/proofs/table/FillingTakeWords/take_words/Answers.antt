-- The words that were solved last are filled behind those before them.
use Rattle.std.proofs.Common.{arith}
use Rattle.flow_kept.proofs.table.FillingTakeWords.take_words.Goals as goal

pub put_words-requires : goal.put_words-requires
put_words-requires c =
    let ready = c.requires.ready in
    let solved = c.solved-solved.ensures in
    record {
      slice = c.requires.slice;
      meets = c.requires.paths;
      whole = ready.whole;
      lo = ready.lo_is;
      hi = ready.hi_is;
      join = ready.join;
      start = solved.0;
      end = solved.1;
      ordered = omega (arith, solved.0, solved.1, c.requires.more);
      first = omega (arith, solved.0, ready.first, c.requires.first);
      last = omega (arith, solved.1, ready.last, c.requires.last);
      from = ready.from;
      until = omega (arith, ready.until, c.requires.slice.points);
      room = ready.room;
    }
