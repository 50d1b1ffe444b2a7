use Rattle.std.proofs.Common.{◌≡◌, ◌+◌, ℕ, List, subst, arith}
use Rattle.point_sets.specs.code.Lines.{Lays}
use Rattle.point_sets.proofs.sets.Laid.{lays-further, still_starts}
use Rattle.text_pieces.specs.Pieces.{Outlet, outlet}
use Rattle.text_pieces.specs.declared.pieces.Pieces.{Pieces}
use Rattle.block_dots.specs.code.BlockBits.{block_shows, shown_among}
use Rattle.block_dots.proofs.block_bits.BlockBits.write_bits.Goals as goal

pub write_bit-last-requires-clause-column : goal.write_bit-last-requires-clause-column
write_bit-last-requires-clause-column g c =
    let at : Pieces _ → Outlet = outlet g.K.Sink in
    still_starts (shown_among c.args.self.now c.args.texts.now.texts 0 c.loop-bit.bit) c.args.line c.loop-bit.last
    (at c.args.out.now) (at c.loop-bit.out) c.loop-bit.invariant c.requires.column

pub loop-bit-preserved : goal.loop-bit-preserved
loop-bit-preserved g c =
    let at : Pieces _ → Outlet = outlet g.K.Sink in
    let texts : List (List ℕ) = c.args.texts.now.texts in
    let bit : ℕ = c.loop-bit.bit in
    let here : bit ≡ 0 + bit = omega arith in
    lays-further (block_shows c.args.self.now) texts 0 bit 1 c.args.line c.loop-bit.last c.write_bit-last.result
    (at c.args.out.now) (at c.loop-bit.out) (at c.write_bit-last.new.out) c.loop-bit.invariant
    (subst (λ b. Lays (shown_among c.args.self.now texts b 1) c.loop-bit.last (at c.loop-bit.out) (at c.write_bit-last.new.out)
    c.write_bit-last.result) here c.write_bit-last.ensures)
