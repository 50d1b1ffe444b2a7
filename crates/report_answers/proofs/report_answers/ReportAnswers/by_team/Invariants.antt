use Rattle.std.proofs.Common.{◌≡◌}
use Rattle.report_answers.specs.code.Reported.{TellRestOf, words_left}
use Rattle.report_answers.proofs.report_answers.ReportAnswers.by_team.Given as goal

abbrev pub invariant-loop-rounds : goal.invariant-loop-rounds
invariant-loop-rounds g l = record {
  rest : TellRestOf l.fn.first.rounds.chosen l.graph l.rounds;
  solvers : l.solvers ≡ l.graph;
}

abbrev pub decreases-loop-rounds : goal.decreases-loop-rounds
decreases-loop-rounds g l = words_left l.rounds
