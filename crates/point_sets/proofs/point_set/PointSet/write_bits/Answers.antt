use Rattle.std.proofs.Common.{◌≡◌, ◌+◌, ◌-◌, ℕ, List, subst, arith}
use Rattle.point_sets.specs.code.Lines.{Lays, names_among}
use Rattle.point_sets.proofs.sets.Laid.{lays-further, still_starts}
use Rattle.point_sets.specs.code.PointSets.{shows}
use Rattle.text_pieces.specs.Pieces.{Outlet, outlet}
use Rattle.text_pieces.specs.declared.pieces.Pieces.{Pieces}
use Rattle.point_sets.proofs.point_set.PointSet.write_bits.Goals as goal

pub write_bit-last-requires-clause-column : goal.write_bit-last-requires-clause-column
write_bit-last-requires-clause-column g c =
    let at : Pieces _ → Outlet = outlet g.K.Sink in
    still_starts (names_among c.args.self.now c.args.texts.now.texts c.args.first (c.loop-bit.bit - c.args.first)) c.args.line c.loop-bit.last
    (at c.args.out.now) (at c.loop-bit.out) c.loop-bit.invariant c.requires.column

pub loop-bit-preserved : goal.loop-bit-preserved
loop-bit-preserved g c =
    let at : Pieces _ → Outlet = outlet g.K.Sink in
    let texts : List (List ℕ) = c.args.texts.now.texts in
    let first : ℕ = c.args.first in
    let bit : ℕ = c.loop-bit.bit in
    let here : bit ≡ first + (bit - first) = omega (arith, c.loop-bit.auto.bit) in
    let more : bit - first + 1 ≡ bit + 1 - first = omega (arith, c.loop-bit.auto.bit) in
    subst (λ n. Lays (names_among c.args.self.now texts first n) c.args.line (at c.args.out.now) (at c.write_bit-last.new.out) c.write_bit-last.result) more
    (lays-further (shows c.args.self.now) texts first (bit - first) 1 c.args.line c.loop-bit.last c.write_bit-last.result (at c.args.out.now) (at c.loop-bit.out)
    (at c.write_bit-last.new.out) c.loop-bit.invariant
    (subst (λ b. Lays (names_among c.args.self.now texts b 1) c.loop-bit.last (at c.loop-bit.out) (at c.write_bit-last.new.out) c.write_bit-last.result)
    here c.write_bit-last.ensures))

pub returns : goal.returns
returns g c =
    let all : c.loop-bit.bit ≡ c.args.end = omega (arith, c.requires.ordered) in
    subst (λ b. Lays (names_among c.args.self.now c.args.texts.now.texts c.args.first (b - c.args.first)) c.args.line (outlet g.K.Sink c.args.out.now)
    (outlet g.K.Sink c.loop-bit.out) c.loop-bit.last) all c.loop-bit.invariant
