use Rattle.std.proofs.lemmas.Result.{on_ok_weaker}
use Rattle.flow_bounds.specs.Clauses.{cell_count}
use Rattle.flow_bounds.proofs.telling.Statements.{ends_here}
use Rattle.flow_bounds.proofs.telling.Telling.{step_adds}
use Rattle.flow_bounds.proofs.clauses.put_step.Goals as goal

pub preserved-kept-requires-clause-there : goal.preserved-kept-requires-clause-there
preserved-kept-requires-clause-there c = (ends_here c.args.frame.now c.args.x c.args.y c.requires.frame c.requires.there c.requires.inside).0.0

pub generated-made-requires-clause-there : goal.generated-made-requires-clause-there
generated-made-requires-clause-there c = (ends_here c.args.frame.now c.args.x c.args.y c.requires.frame c.requires.there c.requires.inside).0.0

pub preserved-still_kept-requires-clause-there : goal.preserved-still_kept-requires-clause-there
preserved-still_kept-requires-clause-there c = (ends_here c.args.frame.now c.args.x c.args.y c.requires.frame c.requires.there c.requires.inside).1.0

pub generated-still_made-requires-clause-there : goal.generated-still_made-requires-clause-there
generated-still_made-requires-clause-there c = (ends_here c.args.frame.now c.args.x c.args.y c.requires.frame c.requires.there c.requires.inside).1.0

pub returns : goal.returns
returns c = on_ok_weaker c.put-3.result
    (step_adds c.args.frame.now c.args.x c.args.y _ _ _ _ _ _ _ c.preserved-still_kept.ensures.cell c.preserved-kept.ensures.cell c.always-always.ensures
    c.generated-still_made.ensures.cell c.generated-made.ensures.cell c.preserves-preserves.ensures (λ bit small. c.generates-generates.ensures bit)
    (cell_count c.args.frame.now) _ _ _ _ c.in_ok-put.ensures c.in_ok-put-2.ensures) c.put-3.ensures
