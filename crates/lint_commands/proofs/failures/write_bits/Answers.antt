use Rattle.std.proofs.Common.{ℕ, List, ◌++◌, codes, decimal, ap, ap₂, ◌∙◌}
use Rattle.lint_commands.specs.Failures.{larger_words}
use Rattle.text_pieces.proofs.sinks.Taking.{takes_as, takes_then}
use Rattle.lint_commands.proofs.failures.write_bits.Goals as goal

abbrev words : (larger : List ℕ) → (variables expressions definitions : ℕ) → List ℕ
words larger variables expressions definitions =
    codes "the program has more than " ++ decimal variables ++ codes " variables, " ++ decimal expressions ++ codes " expressions, or "
    ++ decimal definitions ++ codes " variables and assignments together (refusal 22)" ++ larger

pub returns : goal.returns
returns g c =
    let larger = larger_words c.args.limits in
    takes_as _ _ _ _ (takes_then _ _ _ _ _ (takes_then _ _ _ _ _ (takes_then _ _ _ _ _ (takes_then _ _ _ _ _ (takes_then _ _ _ _ _ (takes_then _ _ _ _ _ (takes_then _ _ _ _ _ c.write.ensures c.write_size.ensures) c.write-2.ensures) c.write_size-2.ensures) c.write-3.ensures) c.write_size-3.ensures) c.write-4.ensures) c.write_larger.ensures)
    (ap₂ (λ v e. words larger v e c.definitions.result) c.variables.ensures c.expressions.ensures
    ∙ ap (words larger _ _) c.definitions.ensures)
