use Rattle.std.proofs.Common.{false}
use Rattle.text_pieces.specs.Pieces.{outlet}
use Rattle.flow_texts.specs.code.Members.{Wrote, chosen}
use Rattle.point_sets.specs.code.Changes.{changed}
use Rattle.json_texts.proofs.differences.write_bits.Given as goal

abbrev pub invariant-loop-bit : goal.invariant-loop-bit
invariant-loop-bit g l =
    Wrote l.texts.between (chosen l.texts.texts (changed l.change l.came)) false 0 l.bit (outlet g.K.Sink l.fn.out) (outlet g.K.Sink l.out) l.others
