use Rattle.std.proofs.lemmas.Result.{on_ok_weaker}
use Rattle.std.proofs.Common.{◌∙◌, ap}
use Rattle.bit_rows.proofs.words.WordBits.{has_bit-max}
use Rattle.flow_bounds.specs.Clauses.{brought_cell, cell_count, generated_cell, preserved_cell}
use Rattle.flow_bounds.proofs.telling.Telling.{inner_adds}
use Rattle.flow_bounds.proofs.clauses.put_inner.Goals as goal

pub returns : goal.returns
returns c = on_ok_weaker c.put-5.result
    (inner_adds c.args.frame.now c.args.x c.args.callee c.args.z _ _ _ _ _ _ _ _ _ _
    c.preserved-still_kept.ensures.cell c.preserved-kept.ensures.cell
    (c.preserved-kept_through.ensures.cell ∙ ap (preserved_cell c.args.frame.now) c.exit-exit.ensures)
    c.generated-still_made.ensures.cell c.generated-made.ensures.cell
    (c.generated-made_through.ensures.cell ∙ ap (generated_cell c.args.frame.now) c.exit-exit.ensures) c.always-always.ensures
    c.brought-still_brought.ensures.cell (c.brought-brought.ensures.cell ∙ ap (brought_cell c.args.frame.now) c.procedure_of-procedure.ensures)
    (λ bit small. has_bit-max bit small)
    (cell_count c.args.frame.now) _ _ _ _ _ _ c.in_ok-put.ensures c.in_ok-put-2.ensures c.in_ok-put-3.ensures c.in_ok-put-4.ensures) c.put-5.ensures
