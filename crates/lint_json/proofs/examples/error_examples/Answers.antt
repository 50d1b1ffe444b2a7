-- The lines compute, once the digits of a number do.
use Rattle.std.proofs.Common.{refl}
use Rattle.std.specs.Fmt.{digits}
use Rattle.lint_json.proofs.examples.error_examples.Goals as goal

pub returns-clause-noted : goal.returns-clause-noted
unfolding digits
returns-clause-noted c = refl

pub returns-clause-bare : goal.returns-clause-bare
unfolding digits
returns-clause-bare c = refl
