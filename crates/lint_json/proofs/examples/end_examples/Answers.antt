-- The lines compute, once the digits of a number do.
use Rattle.std.proofs.Common.{refl}
use Rattle.std.specs.Fmt.{digits}
use Rattle.lint_json.proofs.examples.end_examples.Goals as goal

pub returns-clause-remarks : goal.returns-clause-remarks
unfolding digits
returns-clause-remarks c = refl

pub returns-clause-errors : goal.returns-clause-errors
unfolding digits
returns-clause-errors c = refl

pub returns-clause-all : goal.returns-clause-all
unfolding digits
returns-clause-all c = refl

pub returns-clause-first : goal.returns-clause-first
unfolding digits
returns-clause-first c = refl

pub returns-clause-somewhere : goal.returns-clause-somewhere
unfolding digits
returns-clause-somewhere c = refl
