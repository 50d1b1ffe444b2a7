use Rattle.std.proofs.Common.{◌+◌, ◌++◌, ◌∷◌, [], ℕ, List, sym, subst}
use Rattle.flow_bounds.specs.code.Exact.{AreWayWords}
use Rattle.flow_bounds.proofs.paths.Words.{way_words_more}
use Rattle.flow_bounds.proofs.way_words.way_words.Goals as goal

pub loop-number-preserved : goal.loop-number-preserved
loop-number-preserved c =
    let frame = c.args.frame.now in
    let ways = c.args.ways.now in
    let number = c.loop-number.number in
    let kept = c.loop-number.words.kept.items in
    let made = c.loop-number.words.made.items in
    let more = way_words_more frame c.requires.frame ways c.requires.ways number kept made c.word_of-kept.result.0 c.word_of-kept.result.1
    c.loop-number.invariant c.word_of-kept.ensures in
    subst (λ (l : List ℕ). AreWayWords frame ways (number + 1) l c.push-in-loop-number.new.self.items) (sym c.in_ok-push.ensures.items)
    (subst (λ (l : List ℕ). AreWayWords frame ways (number + 1) (kept ++ c.word_of-kept.result.0 ∷ []) l) (sym c.in_ok-push-2.ensures.items) more)
