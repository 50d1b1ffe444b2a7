use Rattle.std.proofs.Common.{◌+◌, ◌*◌, ◌∙◌, subst, sym, arith}
use Rattle.flow_kept.specs.Facts.{IsFactWord}
use Rattle.flow_kept.proofs.facts.Asked.{answer_is}
use Rattle.flow_queries.proofs.queries.TableAnswers.{asked_answers}
use Rattle.flow_kept.proofs.facts.FactWords.{fact_word, same_place}
use Rattle.gen_kill.specs.Selections.{Selection}
use Rattle.gk_solve.specs.Solved.{AreMeetWords, IsSliceOf}
use Rattle.flow_kept.proofs.asking.asked_word.Goals as goal

pub returns : goal.returns
returns c =
    let s : Selection = c.args.problem.now in
    let slice = c.args.slice.now in
    let query = c.args.query in
    let asked = c.requires.asked in
    let known = c.requires.solved in
    let here = c.requires.here in
    let solved = known.solved (omega (arith, here.0, here.1)) in
    asked_answers s.program query c.table_word.result
    (answer_is s.program c.args.range.0 c.args.range.1 query c.table_word.result asked.low asked.high
    (subst (λ n. IsFactWord s.program query.analysis n c.args.range.1 query.point query.word c.table_word.result) known.lo_is
    (subst (λ n. IsFactWord s.program query.analysis slice.lo n query.point query.word c.table_word.result) known.hi_is
    (fact_word (record { program = s.program; analysis = query.analysis }) slice query.point query.word c.table_word.result
    (subst (λ (t : Selection). IsSliceOf t slice) asked.whole known.of)
    (subst (λ (t : Selection). AreMeetWords t slice) asked.whole solved.2)
    (omega (arith, asked.point, known.of.points))
    (omega (arith, solved.0, here.0)) (omega (arith, solved.1, here.1))
    (λ k small. c.table_word.ensures k small ∙ same_place _ _ _ _ _ _ _ _ (64 * query.word + k) k c.join.ensures c.word-bits.ensures (sym known.lo_is) (sym known.hi_is))))))
