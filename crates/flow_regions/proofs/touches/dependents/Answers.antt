use Rattle.std.proofs.Common.{◌≡◌, ◌<◌, sym, subst, arith}
use Rattle.gen_kill.specs.Selections.{column_count}
use Rattle.flow_regions.specs.code.Lists.{AreLists}
use Rattle.flow_regions.specs.code.Touches.{AreDependents}
use Rattle.flow_regions.proofs.listed.Pairs.{found_as}
use Rattle.flow_regions.proofs.touches.dependents.Goals as goal

pub returns : goal.returns
returns c =
    let all : c.loop-column.column ≡ column_count c.args.problem.now = omega (arith, c.loop-column-test.false, c.loop-column.auto.column-end, c.bits-column-end.ensures.count) in
    let many = c.variables-variables.ensures.count in
    found_as _ (AreDependents c.args.problem.now c.args.marked.now) c.lists_if_few.result
    (λ lists of. record {
      lists = subst (λ n. AreLists n lists) many of.are;
      low = of.low (column_count c.args.problem.now) c.loop-column.invariant.pairs.values_low;
      each = λ variable column low there marked depends.
          of.has variable column (c.loop-column.invariant.each variable column low (subst (λ n. column < n) (sym all) there) marked depends);
    }) c.lists_if_few.ensures
