use Rattle.std.proofs.Common.{◌≡◌, ◌-◌, ℕ, List, length, map, subst, arith}
use Rattle.flow_graph.specs.Points.{point_count}
use Rattle.flow_reports.specs.declared.unset.UnsetUse.{UnsetUse}
use Rattle.worklist.specs.Groups.{AreGroups}
use Rattle.flow_paths.specs.code.UnsetPaths.{uses_in}
use Rattle.flow_paths.specs.declared.unset_path.UnsetPath.{UnsetPath}
use Rattle.flow_paths.proofs.unset_paths.UnsetPaths.of.Goals as goal

pub invariant_of-result : goal.invariant_of-result
invariant_of-result c =
    let groups = c.in_ok-by_point.by_point in
    let so_many : point_count c.args.graph.now ≡ length groups.starts.items - 1 = omega (arith, c.in_ok-by_point.ensures.start_count) in
    subst (λ (n : ℕ). AreGroups (map (λ (one : UnsetUse). one.point) (uses_in c.in_ok-paths.paths.items)) n groups.starts.items groups.places.items)
    so_many
    (subst (λ (ps : List UnsetPath). AreGroups (map (λ (one : UnsetUse). one.point) (uses_in ps)) (point_count c.args.graph.now) groups.starts.items
    groups.places.items)
    c.deref.ensures.value c.in_ok-by_point.ensures)

pub returns : goal.returns
returns c = record {
  count = c.in_ok-by_point.ensures.start_count;
  witnessed = c.in_ok-paths.ensures.witnessed;
  complete = c.in_ok-paths.ensures.complete;
  by_point = invariant_of-result c;
}
