-- The texts compute, once the digits of a number do.
use Rattle.std.proofs.Common.{refl}
use Rattle.std.specs.Fmt.{digits}
use Rattle.flow_parts.proofs.examples.line_examples.Goals as goal

pub returns-clause-heading : goal.returns-clause-heading
unfolding digits
returns-clause-heading c = refl

pub returns-clause-last : goal.returns-clause-last
unfolding digits
returns-clause-last c = refl
