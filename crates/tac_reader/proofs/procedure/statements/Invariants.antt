use Rattle.std.proofs.Common.{◌≡◌, ◌++◌, map, drop}
use Rattle.tac_reader.specs.code.Built.{names_view}
use Rattle.tac_reader.specs.Parses.{statement_of}
use Rattle.tac_reader.specs.Sections.{statements_of}
use Rattle.tac_lines.specs.code.Ranges.{range_view}
use Rattle.tac_reader.specs.code.SectionViews.{lines_view}
use Rattle.tac_reader.proofs.procedure.statements.Given as goal

-- The statements so far and those of the other lines are all.
abbrev pub invariant-loop-at : goal.invariant-loop-at
invariant-loop-at l = record {
  text : l.cursor ≡ l.fn.cursor;
  rest : l.stmts.items ++ map (statement_of l.fn.cursor (names_view l.names))
      (statements_of (map (range_view l.fn.cursor l.lines.tokens.now) (drop l.at l.lines.ranges.now)))
      ≡ map (statement_of l.fn.cursor (names_view l.names)) (statements_of (lines_view l.fn.cursor l.lines));
}
