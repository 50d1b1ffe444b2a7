use Rattle.std.proofs.Common.{◌≡◌, ◌∙◌, ℕ, ◌+◌, sym, ap, subst, arith}
use Rattle.flow_graph.specs.Points.{point_count}
use Rattle.flow_graph.specs.Problems.{MayForm}
use Rattle.flow_team.specs.Sets.{IsInMaySet}
use Rattle.gen_kill.specs.Selections.{Selection}
use Rattle.flow_team.proofs.sets.GraphSetsSolve.post_slice.Goals as goal

pub post_slice_from-requires-clause-ready : goal.post_slice_from-requires-clause-ready
post_slice_from-requires-clause-ready c =
    let on = c.requires.on in
    let count : c.points-points.result ≡ point_count c.args.self.now.program =
    c.points-points.ensures.count ∙ ap (λ (s : Selection). point_count s.program) c.problem.ensures
    ∙ ap (λ (form : MayForm). point_count form.program) c.self.view_is in
    let first : (point : ℕ) → point ≡ 0 + point = λ point. omega arith in
    let wanted = ap (λ (form : MayForm). point_count form.program) on.wanted in
    record {
      wants = λ point bit. (
        (λ want. (
          omega (arith, want.0, count, wanted),
          subst (λ (form : MayForm). IsInMaySet form (0 + point) bit) on.wanted
              (subst (λ (p : ℕ). IsInMaySet c.args.board.now.wanted p bit) (first point) want),
        )),
        (λ both. subst (λ (p : ℕ). IsInMaySet c.args.board.now.wanted p bit) (sym (first point))
            (subst (λ (form : MayForm). IsInMaySet form (0 + point) bit) (sym on.wanted) both.1)),
      );
      points = on.points ∙ sym count;
      there = omega (arith, count);
      within = omega arith;
      of = c.requires.of;
    }
