-- The lines compute, once the digits of a number do.
use Rattle.std.proofs.Common.{refl}
use Rattle.std.specs.Fmt.{digits}
use Rattle.lint_texts.proofs.examples.count_examples.Goals as goal

pub returns-clause-some_left_out : goal.returns-clause-some_left_out
unfolding digits
returns-clause-some_left_out c = refl

pub returns-clause-endless : goal.returns-clause-endless
unfolding digits
returns-clause-endless c = refl

pub returns-clause-more : goal.returns-clause-more
unfolding digits
returns-clause-more c = refl
