-- The texts compute, once the digits of a number do.
use Rattle.std.proofs.Common.{refl}
use Rattle.std.specs.Fmt.{digits}
use Rattle.checked_examples.proofs.view_examples.hover_examples.Goals as goal

pub returns : goal.returns
unfolding digits
returns c = refl
