use Rattle.std.proofs.Common.{◌∙◌, ap, flat_map, fold}
use Rattle.tac_reader.specs.Parses.{names_in}
use Rattle.tac_program.specs.Names.{noted}
use Rattle.tac_reader.specs.Sections.{statements_of, variables_of}
use Rattle.tac_reader.specs.code.SectionViews.{section_view}
use Rattle.tac_reader.proofs.programs.VariableRuns.{noted_on}
use Rattle.tac_reader.proofs.procedure.variables.Goals as goal

pub loop-section-preserved : goal.loop-section-preserved
loop-section-preserved c =
    let text = c.args.text.now in
    record {
      rest = noted_on text c.args.sections.now c.loop-section.section-index c.section-item.result c.loop-section.variables.table c.note_lines.new.variables.table
          _ c.loop-section-test.true
          (c.in_ok-note_lines.ensures.noted ∙ ap
          (λ s. fold noted c.loop-section.variables.table (names_in (flat_map variables_of (statements_of (section_view text s).body)))) c.section-item.is)
          c.loop-section.invariant.rest;
      numbered = c.in_ok-note_lines.ensures.numbered;
    }
