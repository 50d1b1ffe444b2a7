use Rattle.std.proofs.Common.{◌≡◌, ◌+◌, ◌-◌, ◌∙◌, ℕ, List, length, map, sym, subst, ap, arith}
use Rattle.std.specs.Prelude.{All}
use Rattle.flow_graph.specs.Points.{point_count}
use Rattle.flow_reports.specs.declared.listed.PlacedRemark.{PlacedRemark}
use Rattle.tac_program.specs.Programs.{Program}
use Rattle.worklist.specs.Groups.{AreGroups}
use Rattle.flow_paths.specs.code.Arounds.{IsAskable, remarks_in}
use Rattle.flow_paths.specs.declared.around.Around.{Around}
use Rattle.flow_paths.proofs.lists.Surrounding.{askable_points}
use Rattle.flow_paths.proofs.arounds.Arounds.of.Goals as goal

pub arounds_by_point-requires : goal.arounds_by_point-requires
arounds_by_point-requires c =
    askable_points c.args.graph.now c.args.remarks.now (remarks_in c.deref.result.now)
    (ap remarks_in c.deref.ensures.value ∙ c.in_ok-arounds.ensures.put) (subst (λ (p : Program). All (IsAskable p) c.args.remarks.now) (sym c.requires.graph) c.requires.asked)

pub invariant_of-result : goal.invariant_of-result
invariant_of-result c =
    let groups = c.in_ok-by_point.by_point in
    let so_many : point_count c.args.graph.now ≡ length groups.starts.items - 1 = omega (arith, c.in_ok-by_point.ensures.start_count) in
    subst (λ (n : ℕ). AreGroups (map (λ (one : PlacedRemark). one.point) (remarks_in c.in_ok-arounds.arounds.items)) n groups.starts.items groups.places.items)
    so_many
    (subst (λ (xs : List Around). AreGroups (map (λ (one : PlacedRemark). one.point) (remarks_in xs)) (point_count c.args.graph.now) groups.starts.items
    groups.places.items)
    c.deref.ensures.value c.in_ok-by_point.ensures)

pub returns : goal.returns
returns c = record {
  count = c.in_ok-by_point.ensures.start_count ∙ ap (λ (p : Program). point_count p + 1) c.requires.graph;
  exact = c.in_ok-arounds.ensures.exact;
  complete = c.in_ok-arounds.ensures.put;
  by_point = invariant_of-result c;
}
