use Rattle.slice_board.proofs.passes.Shares.{whole_answer}
use Rattle.slice_board.proofs.workers.run_workers.Goals as goal

pub returns-clause-whole : goal.returns-clause-whole
returns-clause-whole g c = whole_answer c.args.pass c.run_threads-answered.result c.run_threads-answered.ensures.share
