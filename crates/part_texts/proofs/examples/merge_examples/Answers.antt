-- The texts compute, once the digits of a number do.
use Rattle.std.proofs.Common.{refl}
use Rattle.std.specs.Fmt.{digits}
use Rattle.part_texts.proofs.examples.merge_examples.Goals as goal

pub returns-clause-in_order : goal.returns-clause-in_order
unfolding digits
returns-clause-in_order c = refl

pub returns-clause-reversed : goal.returns-clause-reversed
unfolding digits
returns-clause-reversed c = refl
