use Rattle.std.proofs.Common.{Bool, List, sym, subst}
use Rattle.gen_kill.specs.Selections.{column_count}
use Rattle.flow_regions.specs.code.Lists.{AreLow}
use Rattle.flow_regions.specs.code.Touches.{AreMarked}
use Rattle.flow_bounds.proofs.settlement.tell_all.Goals as goal

pub tell_columns-requires-clause-low : goal.tell_columns-requires-clause-low
tell_columns-requires-clause-low c =
    let limit = column_count c.args.asking.shared.problem.now in
    c.group_at-group.ensures.low limit (subst (AreLow limit) (sym c.as_slice-in-loop-number.ensures.value) c.in_ok-columns.ensures.low)

pub settled_count-settled-requires-clause-low : goal.settled_count-settled-requires-clause-low
settled_count-settled-requires-clause-low c =
    let limit = column_count c.args.asking.shared.problem.now in
    c.group_at-group.ensures.low limit (subst (AreLow limit) (sym c.as_slice-in-loop-number.ensures.value) c.in_ok-columns.ensures.low)

pub tell_columns-requires-clause-marked : goal.tell_columns-requires-clause-marked
tell_columns-requires-clause-marked c =
    subst (λ (l : List Bool). AreMarked l c.group_at-group.result.now) c.as_slice-in-loop-number-2.ensures.value (c.are_marked.ensures c.if-not-are_marked.false)
