-- The texts compute, once the digits of a number do.
use Rattle.std.proofs.Common.{refl}
use Rattle.std.specs.Fmt.{digits}
use Rattle.part_texts.proofs.examples.fault_examples.Goals as goal

pub returns-clause-second_missing : goal.returns-clause-second_missing
unfolding digits
returns-clause-second_missing c = refl

pub returns-clause-double : goal.returns-clause-double
unfolding digits
returns-clause-double c = refl

pub returns-clause-other_program : goal.returns-clause-other_program
unfolding digits
returns-clause-other_program c = refl

pub returns-clause-other_count : goal.returns-clause-other_count
unfolding digits
returns-clause-other_count c = refl
