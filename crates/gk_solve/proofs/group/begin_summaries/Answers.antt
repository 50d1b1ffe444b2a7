use Rattle.std.proofs.Common.{◌<◌, inl, inr, length, arith, sym, ◌∙◌, ap}
use Rattle.std.proofs.lemmas.Bool.{cases_eq}
use Rattle.flow_links.specs.Shapes.{directed_shape}
use Rattle.gk_solve.specs.Tables.Groups.{group_of}
use Rattle.gk_solve.proofs.beginnings.Beginning.{blank_sound, entry_sound, entry_more}
use Rattle.gk_solve.proofs.group.begin_summaries.Goals as goal

pub loop-procedure-init : goal.loop-procedure-init
loop-procedure-init g c = record {
  entries = λ p w k low. absurd (omega (arith, low));
  sound = blank_sound g.row.W (group_of c.args.frame.now g.row.W) c.loop-point.table
      (λ j d within. c.loop-point.invariant j d (omega (arith, within, c.loop-point-test.false)));
}

pub loop-procedure-preserved : goal.loop-procedure-preserved
loop-procedure-preserved g c =
    let procedure = c.loop-procedure.procedure in
    let there : procedure < (directed_shape c.args.frame.now.links.now).procedures = omega arith in
    let low = c.requires.frame.numbered.entry_in_range procedure there in
    let within : c.entry.result < length c.loop-procedure.table = omega (arith, low, c.entry.ensures, c.requires.count) in
    let more = entry_more g.row.W (group_of c.args.frame.now g.row.W) c.loop-procedure.table procedure c.entry.result within there c.entry.ensures in
    record {
      entries = λ p w k below inside place. more ((directed_shape c.args.frame.now.links.now).entry p) w k inside place (elim (cases_eq p procedure) [
        | inl same ↦ inl (ap (directed_shape c.args.frame.now.links.now).entry same ∙ sym c.entry.ensures)
        | inr other ↦ inr (c.loop-procedure.invariant.entries p w k (omega (arith, below, other)) inside place)
      ]);
      sound = entry_sound g.row.W (group_of c.args.frame.now g.row.W)
          c.loop-procedure.table procedure c.entry.result within there c.entry.ensures c.loop-procedure.invariant.sound;
    }

pub returns-clause-entries : goal.returns-clause-entries
returns-clause-entries g c p w k below inside place = c.loop-procedure.invariant.entries p w k (omega arith) inside place
