use Rattle.std.proofs.Common.{ℕ, List, [], sym, subst, slice_index}
use Rattle.lint_texts.specs.code.Uses.{Follow}
use Rattle.lint_texts.specs.code.Uses.Follow.{ended}
use Rattle.lint_texts.proofs.uses.Uses.none.Goals as goal

pub returns : goal.returns
returns c = λ v. subst (λ (heads : List ℕ). Follow c.new-2.result.items (slice_index heads v) []) (sym c.new.ensures.items) ended
