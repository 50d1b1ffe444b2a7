use Rattle.std.proofs.lemmas.Result.{on_ok_weaker}
use Rattle.std.proofs.Common.{◌∙◌, ap, refl}
use Rattle.flow_bounds.specs.Clauses.{brought_cell, cell_count}
use Rattle.flow_bounds.proofs.telling.Telling.{outer_adds}
use Rattle.flow_bounds.proofs.clauses.put_outer.Goals as goal

pub returns : goal.returns
returns c = on_ok_weaker c.put-5.result
    (outer_adds c.args.frame.now c.args.x c.args.callee c.args.z _ _ _ _ _ _ _ _ _ _
    c.preserved-still_kept.ensures.cell c.preserved-kept.ensures.cell c.always-always.ensures
    c.generated-still_made.ensures.cell c.generated-made.ensures.cell c.outside_generated-made_outside.ensures c.outside_brought-brought_outside.ensures
    (c.brought-brought.ensures.cell ∙ ap (brought_cell c.args.frame.now) c.procedure_of-procedure.ensures)
    (λ bit small. refl) c.all_if-back.ensures
    (cell_count c.args.frame.now) _ _ _ _ _ _ c.in_ok-put.ensures c.in_ok-put-2.ensures c.in_ok-put-3.ensures c.in_ok-put-4.ensures) c.put-5.ensures
