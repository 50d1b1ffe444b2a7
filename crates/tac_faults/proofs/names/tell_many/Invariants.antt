use Rattle.std.proofs.Common.{◌≡◌, ◌++◌, ℕ, List, drop, flat_map, take}
use Rattle.tac_faults.specs.Listed.{most_found}
use Rattle.tac_lines.specs.LineFaults.{at}
use Rattle.tac_lines.specs.code.Views.{tokens_view}
use Rattle.tac_lines.specs.declared.refusal.RefusalKind.TheVariants.{TooManyProcedures}
use Rattle.tac_faults.proofs.names.tell_many.Given as goal

-- The faults so far and the rest's are all.
abbrev pub invariant-loop-title : goal.invariant-loop-title
invariant-loop-title l = (text : List ℕ)
    → take most_found (l.found.items ++ flat_map (λ t. at TooManyProcedures t.start) (tokens_view text (drop l.title-index l.title-items)))
    ≡ take most_found (l.fn.found.items ++ flat_map (λ t. at TooManyProcedures t.start) (tokens_view text l.title-items))
