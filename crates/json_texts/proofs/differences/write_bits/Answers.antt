use Rattle.std.proofs.Common.{◌≡◌, ◌+◌, ◌-◌, ℕ, false, subst, arith}
use Rattle.text_pieces.specs.Pieces.{Outlet, outlet}
use Rattle.text_pieces.specs.declared.pieces.Pieces.{Pieces}
use Rattle.flow_texts.specs.code.Members.{Named, Wrote, chosen}
use Rattle.flow_texts.proofs.sets.ListTexts.{wrote-first}
use Rattle.point_sets.specs.code.Changes.{changed}
use Rattle.json_texts.proofs.differences.write_bits.Goals as goal

pub loop-bit-preserved : goal.loop-bit-preserved
loop-bit-preserved g c =
    let set : Named = chosen c.args.texts.now.texts (changed c.args.change.now c.args.came) in
    let at : Pieces _ → Outlet = outlet g.K.Sink in
    let bit : ℕ = c.loop-bit.bit in
    let one : 1 ≡ bit + 1 - bit = omega arith in
    wrote-first c.args.texts.now.between set false bit (bit + 1) (at c.args.out.now) (at c.loop-bit.out) (at c.write_bit-others.new.out)
    c.loop-bit.others c.write_bit-others.result (omega arith) c.loop-bit.invariant
    (subst (λ n. Wrote c.args.texts.now.between set c.loop-bit.others bit n (at c.loop-bit.out) (at c.write_bit-others.new.out)
    c.write_bit-others.result) one c.write_bit-others.ensures)
