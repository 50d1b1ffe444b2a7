use Rattle.std.proofs.Common.{sym, subst}
use Rattle.report_answers.specs.code.Reported.{TellChosen}
use Rattle.report_answers.proofs.busy.Rest.{report_known}
use Rattle.report_answers.proofs.report_rounds.LaterRounds.done_chosen.Goals as goal

pub returns : goal.returns
returns c = subst (TellChosen c.args.self.rounds.chosen c.args._graph.now) (sym c.of_rounds.ensures)
    (report_known c.args.self.rounds.chosen c.args._graph.now c.args.self c.requires.rest c.requires.none)
