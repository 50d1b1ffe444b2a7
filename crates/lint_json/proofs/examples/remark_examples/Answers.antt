-- The lines compute, once the digits of a number do.
use Rattle.std.proofs.Common.{refl}
use Rattle.std.specs.Fmt.{digits}
use Rattle.lint_json.proofs.examples.remark_examples.Goals as goal

pub returns-clause-uncalled : goal.returns-clause-uncalled
unfolding digits
returns-clause-uncalled c = refl

pub returns-clause-stretch : goal.returns-clause-stretch
unfolding digits
returns-clause-stretch c = refl

pub returns-clause-dead : goal.returns-clause-dead
unfolding digits
returns-clause-dead c = refl
