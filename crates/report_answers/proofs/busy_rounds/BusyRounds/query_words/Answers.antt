use Rattle.std.proofs.Common.{rules, ◌≡◌, ◌∙◌, List, length, take, sym, ap, subst}
use Rattle.flow_queries.specs.declared.query.Query.{Query}
use Rattle.report_answers.specs.code.Querying.{Queries}
use Rattle.report_answers.proofs.busy.Asked.{none_put, taken_back}
use Rattle.report_answers.proofs.busy_rounds.BusyRounds.query_words.Goals as goal

pub returns-clause-back : goal.returns-clause-back
returns-clause-back c = λ is.
    let old : List Query = c.args.queries.now.items in
    let count : c.len-before.result ≡ length old = search rules in
    c.truncate.ensures.items ∙ ap (λ n. take n c.query_tests.new.queries.items) count
    ∙ taken_back old c.query_tests.new.queries.items c.in_ok-query_tests.ensures.queries.kept

pub returns-clause-queries : goal.returns-clause-queries
returns-clause-queries c =
    let old : List Query = c.args.queries.now.items in
    let count : c.len-before.result ≡ length old = search rules in
    let back : c.truncate.new.self.items ≡ old =
    c.truncate.ensures.items ∙ ap (λ n. take n c.query_tests.new.queries.items) count
    ∙ taken_back old c.query_tests.new.queries.items c.in_ok-query_tests.ensures.queries.kept in
    subst (λ (l : List Query). Queries c.args.self.now.chosen c.args.graph.now old l c.args.most) (sym back)
    (none_put c.args.self.now.chosen c.args.graph.now old c.args.most)
