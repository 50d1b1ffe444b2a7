use Rattle.std.proofs.Common.{◌≡◌, All, drop, fold, flat_map}
use Rattle.tac_reader.specs.Parses.{names_in, variables_in}
use Rattle.tac_program.specs.Names.{noted}
use Rattle.tac_reader.specs.code.Occurrences.{IsNumberedIn}
use Rattle.tac_reader.specs.code.SectionViews.{sections_view}
use Rattle.tac_reader.specs.Sections.{statements_of, variables_of}
use Rattle.tac_reader.proofs.procedure.variables.Given as goal

-- The names of the other sections are still to be noted; where those so far stand is known.
abbrev pub invariant-loop-section : goal.invariant-loop-section
invariant-loop-section l = record {
  rest : fold noted l.variables.table
      (names_in (flat_map (λ s. flat_map variables_of (statements_of s.body)) (sections_view l.text (drop l.section-index l.sections))))
      ≡ variables_in (sections_view l.text l.sections);
  numbered : All (IsNumberedIn l.text l.variables.table) l.variables.occurrences.items;
}
