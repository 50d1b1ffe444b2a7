use Rattle.report_answers.proofs.busy.Rest.{rest_known}
use Rattle.report_answers.proofs.report_rounds.LaterRounds.put_round.Goals as goal

pub returns-clause-rest : goal.returns-clause-rest
returns-clause-rest c = rest_known c.args.self.now.rounds.chosen c.args.graph.now c.args.self.now c.put.new.self c.requires.rest c.in_ok-put.ensures.rounds
