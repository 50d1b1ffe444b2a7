use Rattle.std.proofs.Common.{◌≡◌, ◌++◌, List, drop, flat_map, take}
use Rattle.tac_faults.specs.Listed.{most_found}
use Rattle.tac_lines.specs.Tokens.{Token}
use Rattle.tac_lines.specs.declared.refusal.RefusalKind.TheVariants.{UnknownProcedure}
use Rattle.tac_reader.specs.Faults.{callees_in, unknown}
use Rattle.tac_reader.specs.Parses.{each_once, names_in}
use Rattle.tac_reader.specs.code.SectionViews.{sections_view}
use Rattle.tac_faults.proofs.names.tell_callees.Given as goal

-- The faults so far and those of the other procedures are all.
abbrev pub invariant-loop-section : goal.invariant-loop-section
invariant-loop-section l = (known : List Token) → l.procedures ≡ each_once (names_in known)
    → take most_found
    (l.found.items ++ flat_map (λ s. unknown UnknownProcedure known (callees_in s))
    (sections_view l.text (drop l.section-index l.sections)))
    ≡ take most_found (l.fn.found.items
    ++ flat_map (λ s. unknown UnknownProcedure known (callees_in s)) (sections_view l.text l.sections))
