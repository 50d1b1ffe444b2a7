use Rattle.std.proofs.Common.{◌≡◌, ◌<◌, slice_index, inl, inr, sym, subst, ◌∙◌, arith}
use Rattle.std.proofs.lemmas.Bool.{cases_lt}
use Rattle.flow_graph.specs.Points.{point_count}
use Rattle.flow_links.specs.Shapes.{directed_shape}
use Rattle.gen_kill.specs.Selections.{IsColumnAffected}
use Rattle.tac_program.specs.Programs.{Program}
use Rattle.flow_regions.specs.code.Regions.{IsIn}
use Rattle.flow_regions.proofs.region.put_touched.Goals as goal

pub loop-column-preserved : goal.loop-column-preserved
loop-column-preserved c =
    let before = c.loop-column.invariant in
    let put = c.put_inside.ensures in
    record {
      count = put.count ∙ before.count;
      kept = λ p was. put.kept p (before.kept p was);
      touched = λ k x low there affected. elim (cases_lt k c.loop-column.column-index) [
        | inl less ↦ put.kept _ (before.touched k x less there affected)
        | inr past ↦
            let same : k ≡ c.loop-column.column-index = omega (arith, low, past) in
            let here = subst (λ (p : Program). x < point_count p) (sym c.requires.program) there in
            let column = subst (λ i. IsColumnAffected c.args.problem.now x (slice_index c.args.columns.now i)) same affected in
            let (j, within, read) = c.of.ensures.has x
            (c.requires.touches.each x (slice_index c.args.columns.now c.loop-column.column-index) here (c.requires.low _ c.loop-column-test.true)
            (c.requires.marked _ c.loop-column-test.true) column) in
            subst (λ y. IsIn (directed_shape c.args.links.now) c.put_inside.new.inside y) read (put.here j within)
      ];
    }
