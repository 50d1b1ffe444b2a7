use Rattle.std.proofs.Common.{◌≡◌, All, drop, flat_map, fold, map}
use Rattle.tac_reader.specs.Parses.{names_in}
use Rattle.tac_program.specs.Names.{noted}
use Rattle.tac_reader.specs.Sections.{statements_of, variables_of}
use Rattle.tac_reader.specs.code.Occurrences.{IsNumberedIn}
use Rattle.tac_lines.specs.code.Ranges.{range_view}
use Rattle.tac_reader.specs.code.SectionViews.{lines_view}
use Rattle.tac_reader.proofs.procedure.note_lines.Given as goal

-- The names of the other lines are still to be noted; where those so far stand is known.
abbrev pub invariant-loop-at : goal.invariant-loop-at
invariant-loop-at l = record {
  rest : fold noted l.variables.table
      (names_in (flat_map variables_of (statements_of (map (range_view l.text l.lines.tokens.now) (drop l.at l.lines.ranges.now)))))
      ≡ fold noted l.fn.variables.table (names_in (flat_map variables_of (statements_of (lines_view l.text l.lines))));
  numbered : All (IsNumberedIn l.text l.variables.table) l.variables.occurrences.items;
}
