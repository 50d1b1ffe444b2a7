-- The texts compute, once the digits of a number do.
use Rattle.std.proofs.Common.{refl}
use Rattle.std.specs.Fmt.{digits}
use Rattle.checked_examples.proofs.view_examples.behind_examples.Goals as goal

pub returns-clause-sum : goal.returns-clause-sum
unfolding digits
returns-clause-sum c = refl

pub returns-clause-hidden : goal.returns-clause-hidden
unfolding digits
returns-clause-hidden c = refl

pub returns-clause-caller : goal.returns-clause-caller
unfolding digits
returns-clause-caller c = refl

pub returns-clause-callee : goal.returns-clause-callee
unfolding digits
returns-clause-callee c = refl
