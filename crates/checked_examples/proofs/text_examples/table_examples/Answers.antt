-- The texts compute, once the digits of a number do.
use Rattle.std.proofs.Common.{refl}
use Rattle.std.specs.Fmt.{digits}
use Rattle.checked_examples.proofs.text_examples.table_examples.Goals as goal

pub returns-clause-definitions : goal.returns-clause-definitions
unfolding digits
returns-clause-definitions c = refl

pub returns-clause-expressions : goal.returns-clause-expressions
unfolding digits
returns-clause-expressions c = refl

pub returns-clause-no_path : goal.returns-clause-no_path
unfolding digits
returns-clause-no_path c = refl
