use Rattle.std.proofs.Common.{ap, arith, rules}
use Rattle.slice_board.specs.Boards.{about_board}
use Rattle.slice_board.specs.Passes.{PassState, times}
use Rattle.slice_board.proofs.words.Sums.{times-same}
use Rattle.slice_board.proofs.slice_job.SliceJob.work.Goals as goal

pub finished-requires : goal.finished-requires
finished-requires g c =
    let one = times-same c.in-Some.slice c.post_slice.new.pass.finished in
    let is = ap (λ (pass : PassState _). times c.in-Some.slice pass.finished) c.finish.ensures in
    record {
      there = (about_board c.args.self.now, search rules, search rules);
      finished = omega (arith, one, is);
    }
