-- The texts compute, once the digits of a number do.
use Rattle.std.proofs.Common.{refl}
use Rattle.std.specs.Fmt.{digits}
use Rattle.part_texts.proofs.examples.json_examples.Goals as goal

pub returns-clause-reversed : goal.returns-clause-reversed
unfolding digits
returns-clause-reversed c = refl

pub returns-clause-other_form : goal.returns-clause-other_form
unfolding digits
returns-clause-other_form c = refl
