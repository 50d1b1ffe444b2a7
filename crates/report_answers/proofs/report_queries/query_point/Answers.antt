use Rattle.std.proofs.Common.{inr}
use Rattle.std.proofs.lemmas.Result.{IfOk-weaker}
use Rattle.report_answers.proofs.report_queries.query_point.Goals as goal

pub returns-clause-last : goal.returns-clause-last
returns-clause-last c = IfOk-weaker c.query_kind.result _ _ (λ _ next. inr next) c.query_kind.ensures.behind
