use Rattle.report_answers.proofs.busy.Rest.{rest_known}
use Rattle.report_answers.proofs.report_rounds.LaterRounds.next_chosen.Goals as goal

pub returns-clause-rest : goal.returns-clause-rest
returns-clause-rest c = rest_known c.args.self.now.rounds.chosen c.args.graph.now c.args.self.now c.query.new.self c.requires c.in_ok-query.ensures.rounds
