-- The next word of a point is told.
use Rattle.std.proofs.Common.{arith, subst, ◌+◌, ◌*◌, ◌-◌, ◌≤◌, ◌∙◌}
use Rattle.gen_kill.specs.Selections.{Selection, may_form}
use Rattle.gk_solve.specs.Solved.{AreMeetWords, IsSliceOf}
use Rattle.flow_kept.specs.Facts.{IsRowWord}
use Rattle.flow_kept.proofs.facts.FactWords.{fact_word, same_place}
use Rattle.flow_kept.proofs.buffers.Filling.{one_word}
use Rattle.flow_kept.proofs.table.put_row.Goals as goal

pub loop-word-preserved : goal.loop-word-preserved
loop-word-preserved c =
    let form : Selection = c.args.problem.now in
    let slice = c.args.slice.now in
    let layout = c.args.layout in
    let word = c.loop-word.word in
    let before = c.loop-word.invariant.filled in
    let low : layout.first ≤ word = omega (arith, c.requires.first, c.loop-word.auto.word) in
    let told = fact_word (may_form form) slice (layout.from + c.args.row) word c.table_word.result
    (subst (λ (s : Selection). IsSliceOf s slice) c.requires.whole c.requires.slice)
    (subst (λ (s : Selection). AreMeetWords s slice) c.requires.whole c.requires.meets)
    (omega (arith, c.requires.row, c.requires.until))
    (omega (arith, c.requires.start, c.loop-word.auto.word)) (omega (arith, c.requires.end, c.loop-word-test.true))
    (λ k small. c.table_word.ensures k small ∙ same_place _ _ _ _ _ _ _ _ (64 * word + k) k c.requires.join c.word-bits.ensures c.requires.lo c.requires.hi) in
    record {
      filled = one_word (IsRowWord form.program form.analysis layout.from slice.lo slice.hi c.args.row) (c.args.row * layout.count)
          layout.first c.args.solved.0 word
          (c.args.row * layout.count + (word - layout.first)) c.table_word.result c.args.words.now c.loop-word.words before
          low c.loop-word.auto.word (omega (arith, low)) (omega (arith, low, c.requires.room, c.requires.last, c.loop-word-test.true, before.size))
          told;
    }
