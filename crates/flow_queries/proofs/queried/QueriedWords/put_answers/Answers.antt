use Rattle.std.proofs.Common.{◌≡◌, ◌∙◌, ◌<◌, length, rules, slice_index, ap, subst, arith}
use Rattle.std.proofs.lemmas.Grind.{get_or_default_zero}
use Rattle.flow_queries.specs.code.Boards.{Queried, IsArranged}
use Rattle.flow_queries.proofs.queries.Placing.{answered_all, answered_more}
use Rattle.flow_queries.proofs.queried.QueriedWords.put_answers.Goals as goal

pub loop-j-preserved : goal.loop-j-preserved
loop-j-preserved c =
    let queried = c.args.self.now in
    let of = subst IsArranged c.self.view_is c.self.invariant.0 in
    let before = c.loop-j.invariant in
    let there : c.loop-j.j < length c.self.inside.queries.items =
    omega (arith, c.loop-j-test.true, c.len-j-end.ensures, c.self.invariant.0.arranged.size) in
    let at : c.index.result.now ≡ slice_index queried.places c.loop-j.j =
    c.index.ensures
    ∙ get_or_default_zero c.self.inside.places.items c.loop-j.j c.index.result.now (omega (arith, c.loop-j-test.true, c.len-j-end.ensures))
    ∙ ap (λ (a : Queried). slice_index a.places c.loop-j.j) c.self.view_is in
    let inside = subst (λ (a : Queried). c.loop-j.j < length a.queries) c.self.view_is there in
    record {
      count = search rules;
      answered = answered_more queried of.arranged c.loop-j.words c.loop-j.j c.index.result.now c.answer-word.result inside at
          (omega (arith, at, of.arranged.within c.loop-j.j inside, before.count)) before.answered c.answer-word.ensures;
    }

pub returns-clause-answered : goal.returns-clause-answered
returns-clause-answered c =
    let of = subst IsArranged c.self.view_is c.self.invariant.0 in
    answered_all c.args.self.now of.arranged c.loop-j.words c.loop-j.j
    (omega (arith, c.loop-j-test.false, c.len-j-end.ensures, c.self.invariant.0.arranged.size, ap (λ (a : Queried). length a.queries) c.self.view_is))
    c.loop-j.invariant.answered
