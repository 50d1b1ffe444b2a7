use Rattle.std.proofs.Common.{ap, ◌∙◌, arith}
use Rattle.bit_rows.specs.Words.{has_bit}
use Rattle.bit_rows.proofs.words.WordBits.{has_bit-max}
use Rattle.flow_bounds.proofs.tables.tables.Goals as goal

pub returns : goal.returns
returns c =
    let procedures = c.procedures-procedures.ensures.count in
    record {
      all_count = c.in_ok-all.ensures.count ∙ procedures;
      all = λ p k there small. ap (λ w. has_bit w k) (c.in_ok-all.ensures.each p (omega (arith, there, procedures))) ∙ has_bit-max k small;
      none_count = c.in_ok-none.ensures.count ∙ procedures;
      none = c.in_ok-none.ensures.each;
      never_count = c.in_ok-never.ensures.count ∙ procedures;
      never = c.in_ok-never.ensures.each;
      everywhere_count = c.in_ok-everywhere.ensures.count ∙ c.points.ensures.count;
      everywhere = λ x there. c.in_ok-everywhere.ensures.each x (omega (arith, there, c.points.ensures.count));
    }
