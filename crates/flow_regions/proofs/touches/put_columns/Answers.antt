use Rattle.std.proofs.Common.{◌≡◌, ◌<◌, length, slice_index, inl, inr, refl, subst, sym, arith}
use Rattle.std.proofs.lemmas.Bool.{cases_lt, eq-eqb}
use Rattle.flow_regions.specs.code.Lists.{IsPair}
use Rattle.flow_regions.proofs.listed.Pairs.{keeps_trans}
use Rattle.flow_regions.proofs.touches.put_columns.Goals as goal

pub loop-column-preserved : goal.loop-column-preserved
loop-column-preserved c =
    let put = c.in_ok-put_if.ensures in
    let before = c.loop-column.invariant in
    record {
      same = put.same;
      pairs = λ limit pairs low. put.pairs limit (before.pairs limit pairs low) low;
      here = λ j low there. elim (cases_lt j c.loop-column.column-index) [
        | inl less ↦ put.kept _ _ (before.here j less there)
        | inr past ↦
            let same : c.loop-column.column-index ≡ j = omega (arith, low, past) in
            subst (λ i. IsPair c.put_if.new.pairs.keys.items c.put_if.new.pairs.values.items (length c.put_if.new.pairs.keys.items)
            (slice_index c.args.columns.now i) c.args.point) same
            (put.here _ (subst (λ i. slice_index c.args.columns.now i < c.args.count) (sym same) there) (eq-eqb _ _ refl))
      ];
      kept = keeps_trans _ _ _ _ _ _ before.kept put.kept;
    }
