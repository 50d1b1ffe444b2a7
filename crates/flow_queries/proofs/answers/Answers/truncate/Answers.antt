use Rattle.std.proofs.Common.{◌≡◌, ◌∙◌, ℕ, take, subst, sym, ap, arith}
use Rattle.flow_queries.specs.Queries.{AreAnswers, Replies}
use Rattle.flow_queries.proofs.queries.Truncated.{truncated_answers}
use Rattle.flow_queries.proofs.answers.Answers.truncate.Goals as goal

pub returns-clause-answers : goal.returns-clause-answers
returns-clause-answers c = λ program are.
    let was : Replies = c.args.self.now in
    let all : c.loop-number.number ≡ c.args.count = omega (arith, c.loop-number-test.false, c.loop-number.auto.number-end) in
    let queries : c.loop-number.queries.items ≡ take c.args.count was.queries =
    c.loop-number.invariant.queries ∙ ap (λ (n : ℕ). take n was.queries) all in
    let words : c.loop-number.words.items ≡ take c.args.count was.words =
    c.loop-number.invariant.words ∙ ap (λ (n : ℕ). take n was.words) all in
    let forward : c.self.inside.forward.items ≡ was.forward = ap (λ (r : Replies). r.forward) c.self.view_is in
    let backward : c.self.inside.backward.items ≡ was.backward = ap (λ (r : Replies). r.backward) c.self.view_is in
    subst (AreAnswers program)
    (λ i. let r : Replies = record { queries = sym queries i; words = sym words i; forward = sym forward i; backward = sym backward i } in r)
    (truncated_answers program was c.args.count are)
