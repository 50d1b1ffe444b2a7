-- When all words are told, so are the facts.
use Rattle.std.proofs.Common.{◌≡◌, ℕ, ◌+◌, ◌-◌, ◌/◌, List, subst, arith}
use Rattle.bit_rows.specs.Words.{word_count}
use Rattle.gen_kill.specs.Selections.{Selection}
use Rattle.flow_kept.specs.Facts.{IsRowWord}
use Rattle.flow_kept.specs.code.Filled.{AreFilled}
use Rattle.flow_kept.specs.code.Flags.{AreNumbers}
use Rattle.flow_kept.proofs.facts.Told.{all_known}
use Rattle.flow_kept.proofs.table.put_solved.Goals as goal

pub returns-clause-facts : goal.returns-clause-facts
returns-clause-facts c =
    let form : Selection = c.args.solver.now in
    let slice = c.in_ok-slice.slice in
    let from = c.args.ranges.points.0 in
    let until = c.args.ranges.points.1 in
    let lo = c.args.ranges.bits.0 in
    let hi = c.args.ranges.bits.1 in
    let end = c.words_for-end.result in
    let count = end - lo / 64 in
    let count_is : count ≡ word_count lo hi = omega (arith, c.words_for-end.ensures) in
    let range = c.in_ok-slice.ensures.range in
    let old : List ℕ = c.args.words.now in
    let new : List ℕ = c.put_slice.new.words in
    all_known form.program form.analysis from until lo hi c.in_ok-paths.paths.items c.args.flags.now c.put_flags.new.flags old new
    c.requires.in_range c.in_ok-paths.ensures c.requires.room.0
    (subst (λ l. AreNumbers l from c.args.flags.now c.put_flags.new.flags) c.deref.ensures.value c.put_flags.ensures)
    c.requires.room.1
    (subst (λ n. AreFilled (IsRowWord form.program form.analysis from lo hi) (until - from) n (lo / 64) (lo / 64) ((hi + 63) / 64) old new) count_is
    (subst (λ n. AreFilled (IsRowWord form.program form.analysis from lo n) (until - from) count (lo / 64) (lo / 64) ((n + 63) / 64) old new) range.1
    (subst
    (λ n. AreFilled (IsRowWord form.program form.analysis from n slice.hi) (until - from) count (n / 64) (n / 64) ((slice.hi + 63) / 64) old new)
    range.0 c.put_slice.ensures)))
