use Rattle.std.proofs.Common.{◌≡◌, ◌-◌, ◌*◌, [], ◌∷◌, ◌++◌, ℕ, min, ap, ◌∙◌, sym, refl, arith}
use Rattle.slice_board.specs.Passes.{PassState}
use Rattle.slice_board.specs.Boards.{BoardState, slice_count}
use Rattle.slice_board.specs.code.Plays.{load_of}
use Rattle.slice_board.specs.code.Closing.{ones_below}
use Rattle.slice_board.proofs.passes.Counting.{CountedTo-none, CountedTo-more, Counted-all, shown_below-most}
use Rattle.slice_board.proofs.word_board.WordBoard.count_finished.Goals as goal

pub overflow_add-done : goal.overflow_add-done
overflow_add-done g c =
    let so_far = c.words.invariant.so_far in
    let most = shown_below-most (min (64 * c.words.word) (slice_count c.args.self.now.cut)) so_far.values in
    let slices = ap (λ (b : BoardState _). slice_count b.cut) c.self.view_is in
    let count = c.slices-slices.ensures.count in
    let fits = c.slices-slices.type_inv in
    let room = c.ones_below-done.ensures.most in
    let test = c.words-test.true in
    let end = c.words_for-word-end.ensures in
    let less = c.min.ensures in
    omega (arith, so_far.shown)

pub words-preserved : goal.words-preserved
words-preserved g c =
    let i = c.words.invariant in
    let new = c.load_done-value.ensures.counted in
    let slices = ap (λ (b : BoardState _). slice_count b.cut) c.self.view_is in
    let count = c.slices-slices.ensures.count in
    let test = c.words-test.true in
    let end = c.words_for-word-end.ensures in
    let less = c.min.ensures in
    let places : c.min.result ≡ min (slice_count c.args.self.now.cut - 64 * c.words.word) 64 = omega arith in
    record {
      of = record { table = ap (λ (q : PassState _). q.table) new ∙ i.of.table; about = ap (λ (q : PassState _). q.about) new ∙ i.of.about };
      same = new ∙ ap (λ (q : PassState _). record q { counted = c.words.pass.counted ++ load_of c.words.word c.load_done-value.result ∷ [] }) i.same
          ∙ ap (λ (l : _). record c.args.pass.now { counted = l }) (sym (ap (λ (q : PassState _). q.counted) new));
      so_far = CountedTo-more (slice_count c.args.self.now.cut) c.words.word c.words.done c.ones_below-done.result c.load_done-value.result
          c.args.pass.now
          c.words.pass c.load_done-value.new.pass i.so_far i.same (omega arith)
          (ap (λ (q : PassState _). q.counted) new) c.load_done-value.ensures.own c.load_done-value.ensures.found
          (c.ones_below-done.ensures.value ∙ ap (λ (n : ℕ). ones_below n c.load_done-value.result) places);
    }

pub returns-clause-counted : goal.returns-clause-counted
returns-clause-counted g c =
    let slices = ap (λ (b : BoardState _). slice_count b.cut) c.self.view_is in
    let count = c.slices-slices.ensures.count in
    let test = c.words-test.false in
    let end = c.words_for-word-end.ensures in
    let auto = c.words.auto.word-end in
    Counted-all (slice_count c.args.self.now.cut) c.words.word c.words.done c.args.pass.now c.words.pass c.words.invariant.so_far (omega arith)

pub words-init : goal.words-init
words-init g c = record {
  of = record { table = c.requires.table; about = c.requires.about };
  same = refl;
  so_far = CountedTo-none (slice_count c.args.self.now.cut) c.args.pass.now;
}
