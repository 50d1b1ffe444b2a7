use Rattle.report_answers.specs.code.Reported.{TellRest, words_left}
use Rattle.flow_rows.proofs.table_reports.report_answers_of_tables.Given as goal

abbrev pub invariant-loop-rounds : goal.invariant-loop-rounds
invariant-loop-rounds l = TellRest l.graph l.rounds

abbrev pub decreases-loop-rounds : goal.decreases-loop-rounds
decreases-loop-rounds l = words_left l.rounds
