-- What is within limits is within the large ones.
use Rattle.std.proofs.Common.{ℕ, ◌≤◌, arith}
use Rattle.tac_program.specs.Limits.{longest_text, most_procedures}
use Rattle.tac_program.specs.declared.limits.Limits.{Limits}
use Rattle.tac_program.specs.declared.limits.Limits.TheVariants.{Standard, Large}

pub text_within_large : (limits : Limits) (n : ℕ) → n ≤ longest_text limits → n ≤ longest_text Large
text_within_large Standard n h = omega (arith, h)
text_within_large Large n h = h

pub procedures_within_large : (limits : Limits) → most_procedures limits ≤ most_procedures Large
procedures_within_large Standard = omega arith
procedures_within_large Large = omega arith
