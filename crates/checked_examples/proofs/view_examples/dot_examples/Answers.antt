-- The texts compute, once the digits of a number do.
use Rattle.std.proofs.Common.{refl}
use Rattle.std.specs.Fmt.{digits}
use Rattle.checked_examples.proofs.view_examples.dot_examples.Goals as goal

pub returns-clause-marks : goal.returns-clause-marks
unfolding digits
returns-clause-marks c = refl

pub returns-clause-endless : goal.returns-clause-endless
unfolding digits
returns-clause-endless c = refl

pub returns-clause-first : goal.returns-clause-first
unfolding digits
returns-clause-first c = refl

pub returns-clause-recursive : goal.returns-clause-recursive
unfolding digits
returns-clause-recursive c = refl
