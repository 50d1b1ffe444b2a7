use Rattle.std.proofs.Common.{subst}
use Rattle.flow_graph.specs.Paths.{SomePathHas}
use Rattle.flow_graph.specs.Problems.{may_shape}
use Rattle.gen_kill.specs.Selections.{column_transfer}
use Rattle.flow_bounds.proofs.answers.tell_ask.Goals as goal

pub returns-then-is_lacked : goal.returns-then-is_lacked
returns-then-is_lacked c =
    subst
    (λ column. SomePathHas (may_shape c.args.problem.now.program c.args.problem.now.analysis) (column_transfer c.args.problem.now column) c.args.ask.point → ⊥)
    c.requires.column (c.is_lacked.ensures c.if-is_lacked.true)

pub returns-then-is_had : goal.returns-then-is_had
returns-then-is_had c =
    subst
    (λ column. SomePathHas (may_shape c.args.problem.now.program c.args.problem.now.analysis) (column_transfer c.args.problem.now column) c.args.ask.point)
    c.requires.column (c.is_had.ensures c.if-is_had.true)
