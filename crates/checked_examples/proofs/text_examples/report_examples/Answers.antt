-- The texts compute, once the digits of a number do.
use Rattle.std.proofs.Common.{refl}
use Rattle.std.specs.Fmt.{digits}
use Rattle.checked_examples.proofs.text_examples.report_examples.Goals as goal

pub returns-clause-unset_and_dead : goal.returns-clause-unset_and_dead
unfolding digits
returns-clause-unset_and_dead c = refl

pub returns-clause-never_reached : goal.returns-clause-never_reached
unfolding digits
returns-clause-never_reached c = refl

pub returns-clause-doubtful : goal.returns-clause-doubtful
unfolding digits
returns-clause-doubtful c = refl

pub returns-clause-very_busy : goal.returns-clause-very_busy
unfolding digits
returns-clause-very_busy c = refl
