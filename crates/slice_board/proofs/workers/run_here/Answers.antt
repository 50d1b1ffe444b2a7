use Rattle.slice_board.proofs.passes.Shares.{whole_answer}
use Rattle.slice_board.proofs.workers.run_here.Goals as goal

pub returns-clause-whole : goal.returns-clause-whole
returns-clause-whole g c = whole_answer c.args.pass c.drain_slices.result c.drain_slices.ensures.share
