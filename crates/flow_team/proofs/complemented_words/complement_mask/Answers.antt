use Rattle.std.proofs.Common.{◌+◌, ◌*◌, ◌&&◌, nat_lt, sym, ap, ◌∙◌}
use Rattle.bit_rows.proofs.words.WordBits.{has_bit-zero}
use Rattle.flow_graph.specs.Directions.{is_intersection}
use Rattle.flow_graph.specs.declared.analysis.Join.{Join}
use Rattle.flow_team.proofs.complemented_words.complement_mask.Goals as goal

pub returns-in-Union : goal.returns-in-Union
returns-in-Union c = λ k small.
    has_bit-zero k ∙ sym (ap (λ (j : Join). is_intersection j && nat_lt (64 * c.args.word + k) c.args.bits) c.in-Union.is)

pub returns-in-Intersection : goal.returns-in-Intersection
returns-in-Intersection c = λ k small.
    c.word_below.ensures k small
    ∙ sym (ap (λ (j : Join). is_intersection j && nat_lt (64 * c.args.word + k) c.args.bits) c.in-Intersection.is)
