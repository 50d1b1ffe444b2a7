-- The texts compute, once the digits of a number do.
use Rattle.std.proofs.Common.{refl}
use Rattle.std.specs.Fmt.{digits}
use Rattle.checked_examples.proofs.view_examples.json_examples.Goals as goal

pub returns-clause-sets : goal.returns-clause-sets
unfolding digits
returns-clause-sets c = refl

pub returns-clause-first : goal.returns-clause-first
unfolding digits
returns-clause-first c = refl

pub returns-clause-second : goal.returns-clause-second
unfolding digits
returns-clause-second c = refl
