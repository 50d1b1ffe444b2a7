use Rattle.tac_reader.specs.Parses.{procedure_of}
use Rattle.tac_reader.specs.code.SectionViews.{section_view}
use Rattle.std.proofs.Common.{◌∙◌, ap, arith}
use Rattle.std.specs.Vec.Iter.{into_iter_items}
use Rattle.tac_reader.proofs.programs.ProcedureRuns.{built_on, labels_left}
use Rattle.tac_reader.proofs.procedure.procedures.Goals as goal

pub loop-section-preserved : goal.loop-section-preserved
loop-section-preserved c =
    let text = c.args.tables.variables.text.now in
    let sections = c.args.sections.now in
    let index = c.loop-section.section-index in
    record {
      text = c.in_ok-procedure.ensures.text ∙ c.loop-section.invariant.text;
      labels = labels_left text sections index c.next.result c.unwrap.result (into_iter_items c.loop-section.labels) (into_iter_items c.next.new.self)
          c.unwrap.ensures c.next.ensures.items c.loop-section.invariant.labels;
      rest = built_on text c.loop-section.cursor c.args.tables.procedures.now c.args.tables.variables.table.now sections index c.section-item.result
          c.loop-section.procs.items c.push.new.self.items c.in_ok-procedure.field-0 c.in_ok-number.number _
          c.loop-section-test.true c.loop-section.invariant.text (omega (arith, c.in_ok-number.ensures, c.len.ensures, c.loop-section.procs.ok))
          (c.in_ok-procedure.ensures.procedure
          ∙ ap (λ s. procedure_of c.loop-section.cursor c.args.tables.procedures.now c.args.tables.variables.table.now c.in_ok-number.number
          (section_view c.loop-section.cursor s)) c.section-item.is) c.in_ok-push.ensures.items c.loop-section.invariant.rest;
    }
