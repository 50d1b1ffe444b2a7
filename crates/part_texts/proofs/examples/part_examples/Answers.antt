-- The texts compute, once the digits of a number do.
use Rattle.std.proofs.Common.{refl}
use Rattle.std.specs.Fmt.{digits}
use Rattle.part_texts.proofs.examples.part_examples.Goals as goal

pub returns-clause-whole : goal.returns-clause-whole
unfolding digits
returns-clause-whole c = refl

pub returns-clause-cut_at_line : goal.returns-clause-cut_at_line
unfolding digits
returns-clause-cut_at_line c = refl

pub returns-clause-cut_in_line : goal.returns-clause-cut_in_line
unfolding digits
returns-clause-cut_in_line c = refl

pub returns-clause-other_end : goal.returns-clause-other_end
unfolding digits
returns-clause-other_end c = refl
