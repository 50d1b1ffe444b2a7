use Rattle.std.proofs.Common.{◌≡◌, ◌+◌, ◌-◌, ◌*◌, ◌<◌, ℕ, List, min, subst, arith}
use Rattle.point_sets.specs.code.Lines.{Lays, names_among}
use Rattle.point_sets.proofs.sets.Laid.{lays-further, still_starts}
use Rattle.point_sets.specs.code.PointSets.{shows}
use Rattle.text_pieces.specs.Pieces.{Outlet, outlet}
use Rattle.text_pieces.specs.declared.pieces.Pieces.{Pieces}
use Rattle.point_sets.proofs.point_set.PointSet.write_words.Goals as goal

pub write_word-last-requires-clause-column : goal.write_word-last-requires-clause-column
write_word-last-requires-clause-column g c =
    let at : Pieces _ → Outlet = outlet g.K.Sink in
    still_starts (names_among c.args.self.now c.args.texts.now.texts 0 (min c.args.bits (64 * c.loop-at.at))) c.args.line c.loop-at.last
    (at c.args.out.now) (at c.loop-at.out) c.loop-at.invariant c.requires.column

pub loop-at-preserved : goal.loop-at-preserved
loop-at-preserved g c =
    let at : Pieces _ → Outlet = outlet g.K.Sink in
    let texts : List (List ℕ) = c.args.texts.now.texts in
    let first : ℕ = 64 * c.loop-at.at in
    let below : first < c.args.bits = omega (arith, c.words_for-at-end.ensures, c.loop-at-test.true) in
    let here : first ≡ 0 + min c.args.bits first = omega (arith, below) in
    let more : min c.args.bits first + min (c.args.bits - first) 64 ≡ min c.args.bits (64 * (c.loop-at.at + 1)) = omega (arith, below) in
    subst (λ n. Lays (names_among c.args.self.now texts 0 n) c.args.line (at c.args.out.now) (at c.write_word-last.new.out) c.write_word-last.result) more
    (lays-further (shows c.args.self.now) texts 0 (min c.args.bits first) (min (c.args.bits - first) 64) c.args.line c.loop-at.last c.write_word-last.result
    (at c.args.out.now) (at c.loop-at.out) (at c.write_word-last.new.out) c.loop-at.invariant
    (subst (λ b. Lays (names_among c.args.self.now texts b (min (c.args.bits - first) 64)) c.loop-at.last (at c.loop-at.out) (at c.write_word-last.new.out)
    c.write_word-last.result) here c.write_word-last.ensures))

pub returns : goal.returns
returns g c =
    let all : min c.args.bits (64 * c.loop-at.at) ≡ c.args.bits = omega (arith, c.words_for-at-end.ensures, c.loop-at-test.false) in
    subst (λ n. Lays (names_among c.args.self.now c.args.texts.now.texts 0 n) c.args.line (outlet g.K.Sink c.args.out.now) (outlet g.K.Sink c.loop-at.out)
    c.loop-at.last) all c.loop-at.invariant
