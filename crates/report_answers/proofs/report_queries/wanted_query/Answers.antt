use Rattle.std.proofs.Common.{Bool, if◌then◌else◌, ap, sym, ◌∙◌}
use Rattle.report_answers.specs.code.Answered.{query_for}
use Rattle.report_answers.specs.code.Chosen.{blank_query}
use Rattle.report_answers.proofs.report_queries.wanted_query.Goals as goal

pub returns-then-wants : goal.returns-then-wants
returns-then-wants c =
    c.query_for.ensures
    ∙ sym (ap (λ (b : Bool). if b then query_for c.args.analysis c.args.point c.args.bit else blank_query c.args.analysis c.args.point)
    (sym c.wants.ensures ∙ c.if-wants.true))

pub returns : goal.returns
returns c =
    sym (ap (λ (b : Bool). if b then query_for c.args.analysis c.args.point c.args.bit else blank_query c.args.analysis c.args.point)
    (sym c.wants.ensures ∙ c.if-wants.false))
