use Rattle.std.proofs.lemmas.Result.{on_ok_weaker}
use Rattle.std.proofs.Common.{◌∙◌, ap, refl}
use Rattle.bit_rows.proofs.words.WordBits.{has_bit-max}
use Rattle.flow_bounds.specs.Clauses.{cell_count, generated_cell, preserved_cell}
use Rattle.flow_bounds.proofs.telling.Telling.{procedure_adds}
use Rattle.flow_bounds.proofs.clauses.put_ends.Goals as goal

pub returns : goal.returns
returns c = on_ok_weaker c.put-4.result
    (procedure_adds c.args.frame.now c.args.procedure _ _ _ _ _ _ _ _ _
    (c.preserved-kept.ensures.cell ∙ ap (preserved_cell c.args.frame.now) c.entry-entry.ensures) c.always-always.ensures
    c.brought-brought.ensures.cell c.outside_generated-made_outside.ensures
    (c.generated-made.ensures.cell ∙ ap (generated_cell c.args.frame.now) c.exit-exit.ensures) c.outside_brought-brought_outside.ensures
    (λ bit small. has_bit-max bit small) (λ bit small. refl) c.all_if-called.ensures
    (cell_count c.args.frame.now) _ _ _ _ _ c.in_ok-put.ensures c.in_ok-put-2.ensures c.in_ok-put-3.ensures) c.put-4.ensures
