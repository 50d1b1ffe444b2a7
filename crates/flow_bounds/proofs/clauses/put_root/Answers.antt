use Rattle.std.proofs.lemmas.Result.{on_ok_weaker}
use Rattle.std.proofs.Common.{◌∙◌, ◌&&◌, ap}
use Rattle.bit_rows.specs.Words.{has_bit}
use Rattle.flow_bounds.specs.Clauses.{brought_cell, cell_count, is_inside}
use Rattle.flow_bounds.proofs.telling.Telling.{root_adds}
use Rattle.flow_bounds.proofs.clauses.put_root.Goals as goal

pub returns : goal.returns
returns c = on_ok_weaker c.put-3.result
    (root_adds c.args.frame.now _ _ _ _ _ _ _
    (c.brought-brought.ensures.cell ∙ ap (brought_cell c.args.frame.now) c.root-root.ensures) c.always-always.ensures
    c.outside_brought-brought_outside.ensures c.outside_generated-made_outside.ensures
    (λ bit small. c.word_if-inner.ensures bit ∙ ap (λ r. is_inside c.args.frame.now r && has_bit c.args.frame.now.boundary bit) c.root-root.ensures)
    (λ bit small. c.word_if-outer.ensures bit) c.all_if-joined.ensures
    (cell_count c.args.frame.now) _ _ _ _ c.in_ok-put.ensures c.in_ok-put-2.ensures) c.put-3.ensures
