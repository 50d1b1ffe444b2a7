use Rattle.std.proofs.Common.{◌≡◌, ◌++◌, drop, map, length}
use Rattle.std.specs.Vec.Iter.{into_iter_items}
use Rattle.tac_reader.specs.Parses.{names_in, procedures_from}
use Rattle.tac_reader.specs.code.SectionViews.{sections_view}
use Rattle.tac_reader.specs.Sections.{labels_in}
use Rattle.tac_reader.proofs.procedure.procedures.Given as goal

-- The procedures so far and those of the other sections are all, and the other sections' labels are left.
abbrev pub invariant-loop-section : goal.invariant-loop-section
invariant-loop-section l = record {
  text : l.cursor ≡ l.tables.variables.text.now;
  labels : into_iter_items l.labels ≡ map (λ s. names_in (labels_in s)) (sections_view l.tables.variables.text.now (drop l.section-index l.sections));
  rest : l.procs.items ++ procedures_from l.tables.variables.text.now l.tables.procedures.now l.tables.variables.table.now (length l.procs.items)
      (sections_view l.tables.variables.text.now (drop l.section-index l.sections)) ≡ procedures_from l.tables.variables.text.now
      l.tables.procedures.now l.tables.variables.table.now 0 (sections_view l.tables.variables.text.now l.sections);
}
