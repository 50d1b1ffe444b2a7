use Rattle.std.proofs.Common.{◌≡◌, ◌≤◌, ℕ, suc, Some, length, slice_get, subst}
use Rattle.std.specs.Prelude.{MatchOption}
use Rattle.report_answers.specs.code.Reported.{Reported}
use Rattle.report_answers.proofs.report_answers.ReportAnswers.busy_word.Goals as goal

pub returns : goal.returns
returns c = subst (λ (r : Reported). MatchOption c.word.result ((place : ℕ) → c.args.number ≡ suc place → length r.busy.words ≤ place)
    (λ busy. (place : ℕ) × (c.args.number ≡ suc place) × (slice_get r.busy.words place ≡ Some busy))) c.self.view_is c.word.ensures
