use Rattle.std.proofs.Common.{◌≡◌, ◌∙◌, length, sym, ap, subst}
use Rattle.std.specs.Vec.{with_items}
use Rattle.gk_solve.proofs.slices.Slices.{written_over}
use Rattle.flow_queries.specs.Queries.{AreAnswers, Replies}
use Rattle.flow_queries.proofs.queries.Answered.{answers_known}
use Rattle.flow_queries.proofs.answers.Answers.of.Goals as goal

pub returns-clause-answers : goal.returns-clause-answers
returns-clause-answers c =
    let queried = c.args.queried in
    let parts = c.into_parts-queries.result in
    let put = c.put_answers.new.words in
    let forward = c.in_ok-forward.forward.items in
    let backward = c.in_ok-backward.backward.items in
    let words : (with_items c.in_ok-words.words put).items ≡ put =
    written_over c.in_ok-words.words.len put c.in_ok-words.words.items c.in_ok-words.words.ok.0
    (c.put_answers.auto.words ∙ ap length c.as_mut_slice.ensures.value) in
    subst (AreAnswers queried.program) (sym c.of_words-answers.ensures)
    (subst (AreAnswers queried.program)
    (λ i. let r : Replies = record { queries = sym c.into_parts-queries.ensures.queries i; words = sym words i; forward = forward; backward = backward } in r)
    (answers_known queried.program queried.queries put forward backward c.put_answers.ensures.count c.put_answers.ensures.answered
    c.in_ok-forward.ensures c.in_ok-backward.ensures))
