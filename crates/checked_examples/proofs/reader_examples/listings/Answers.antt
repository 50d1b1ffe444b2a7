-- The listings compute, once the digits of a number do.
use Rattle.std.proofs.Common.{refl}
use Rattle.std.specs.Fmt.{digits}
use Rattle.checked_examples.proofs.reader_examples.listings.Goals as goal

pub returns-clause-listing : goal.returns-clause-listing
unfolding digits
returns-clause-listing c = refl

pub returns-clause-again : goal.returns-clause-again
unfolding digits
returns-clause-again c = refl

pub returns-clause-straight_line : goal.returns-clause-straight_line
unfolding digits
returns-clause-straight_line c = refl

pub returns-clause-labels_of_the_end : goal.returns-clause-labels_of_the_end
unfolding digits
returns-clause-labels_of_the_end c = refl

pub returns-clause-each_statement : goal.returns-clause-each_statement
unfolding digits
returns-clause-each_statement c = refl
