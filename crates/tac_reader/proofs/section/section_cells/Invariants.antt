use Rattle.std.proofs.Common.{◌≡◌, ◌++◌, ℕ, List, drop, map, flat_map, take, vec_len}
use Rattle.tac_lines.specs.Forms.{cells_of, in_slot}
use Rattle.tac_lines.specs.code.Roles.{role_test}
use Rattle.tac_reader.specs.Sections.{statements_of}
use Rattle.tac_lines.specs.code.Ranges.{range_view}
use Rattle.tac_reader.specs.code.SectionViews.{lines_view}
use Rattle.tac_lines.specs.code.Views.{tokens_view}
use Rattle.tac_reader.proofs.section.section_cells.Given as goal

-- The tokens so far and those of the other lines are all.
abbrev pub invariant-loop-at : goal.invariant-loop-at
invariant-loop-at l = record {
  kept : take (vec_len l.fn.found) l.found.items ≡ l.fn.found.items;
  rest : (text : List ℕ) → tokens_view text l.found.items ++ flat_map (λ statement. in_slot (role_test l.role) (cells_of statement))
      (statements_of (map (range_view text l.lines.tokens.now) (drop l.at l.lines.ranges.now))) ≡ tokens_view text l.fn.found.items
      ++ flat_map (λ statement. in_slot (role_test l.role) (cells_of statement)) (statements_of (lines_view text l.lines));
}
