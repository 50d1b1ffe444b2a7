use Rattle.std.proofs.Common.{◌≡◌, ◌∙◌, ◌+◌, ◌/◌, arith, refl, subst, sym, subst₂, ℕ}
use Rattle.std.proofs.Math.Path.{subst₃}
use Rattle.gk_solve.proofs.words.SolvedWords.{meet_words}
use Rattle.gk_solve.proofs.take_words.solve_each.Goals as goal

pub words-init : goal.words-init
words-init g c = record {
  slice = c.requires.slice;
  lo = refl;
  hi = refl;
  low = omega (arith, c.range-lo.ensures.0);
  high = omega (arith, c.range-lo.ensures.0, c.requires.slice.ordered);
  ready = c.requires.ready;
  has = subst (λ n. g.T.TakeWords.has c.args.taker.now c.args.taker.now c.args.problem.now c.args.slice.now.lo c.args.slice.now.hi (n / 64))
      (sym c.range-lo.ensures.0) c.requires.begun;
}

pub take_words-requires : goal.take_words-requires
take_words-requires g c =
    let form = c.args.problem.now in
    let before = c.words.invariant in
    let after = c.solve_from-word.ensures in
    let slice = c.solve_from-word.new.self in
    let lo : slice.lo ≡ c.args.slice.now.lo = after.range.0 ∙ before.lo in
    let hi : slice.hi ≡ c.args.slice.now.hi = after.range.1 ∙ before.hi in
    record {
      ready = subst₂ (λ (l h : ℕ). g.T.TakeWords.is_ready c.words.taker form l h) (sym lo) (sym hi) before.ready;
      slice = after.slice;
      first = omega (arith, after.from, before.low, lo);
      more = omega (arith, after.from, after.until, after.more);
      last = omega (arith, after.until, after.last, after.range.1);
      equations = after.solved;
      paths = meet_words form slice c.root.ensures.well_formed after.solved;
    }

pub words-preserved : goal.words-preserved
words-preserved g c =
    let form = c.args.problem.now in
    let before = c.words.invariant in
    let after = c.solve_from-word.ensures in
    let slice = c.solve_from-word.new.self in
    let start = c.args.taker.now in
    let taker = c.take_words.new.self in
    let lo : slice.lo ≡ c.args.slice.now.lo = after.range.0 ∙ before.lo in
    let hi : slice.hi ≡ c.args.slice.now.hi = after.range.1 ∙ before.hi in
    record {
      slice = after.slice;
      lo = lo;
      hi = hi;
      low = omega (arith, before.low, after.more);
      high = omega (arith, after.last, before.hi);
      ready = subst₂ (λ (l h : ℕ). g.T.TakeWords.is_ready taker form l h) lo hi c.take_words.ensures.ready;
      has = subst₃ (λ (l h w : ℕ). g.T.TakeWords.has start taker form l h w) lo hi after.until
          (c.take_words.ensures.has start (subst₃ (λ (l h w : ℕ). g.T.TakeWords.has start c.words.taker form l h w) (sym lo) (sym hi)
          (sym after.from) before.has));
    }

pub returns : goal.returns
returns g c =
    let end : c.words.word ≡ (c.args.slice.now.hi + 63) / 64 = omega (
      arith,
      c.words.invariant.high,
      c.words-test.false,
      c.words_for.ensures,
      c.range-lo.ensures.1,
    ) in
    subst (g.T.TakeWords.has c.args.taker.now c.words.taker c.args.problem.now c.args.slice.now.lo c.args.slice.now.hi) end c.words.invariant.has
