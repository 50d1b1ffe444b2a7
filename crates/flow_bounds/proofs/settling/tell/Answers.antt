use Rattle.std.proofs.Common.{◌≡◌, ◌<◌, ◌∙◌, ℕ, List, true, length, slice_index, ap, subst, arith}
use Rattle.bit_rows.specs.Words.{has_bit}
use Rattle.flow_links.specs.Shapes.{LinkedProgram, directed_shape}
use Rattle.gen_kill.specs.Selections.{column_transfer}
use Rattle.summary_equations.specs.Equations.{Brought, Entered, Preserved}
use Rattle.flow_bounds.proofs.settling.tell.Goals as goal

pub below-below-requires-clause-known : goal.below-below-requires-clause-known
below-below-requires-clause-known c =
    let linked = c.above-above.ensures.linked in
    let counts = ap (λ (l : LinkedProgram). (directed_shape l).procedures) linked in
    let found = c.in_ok-through.ensures in
    let few = c.requires.group.few in
    let columns = c.args.group.now.columns.now in
    let selection = c.args.asking.shared.problem.now in
    record {
      paths = c.requires.asking.shared.paths;
      through_count = ap length c.as_slice-4.ensures.value ∙ (found.through_count ∙ counts);
      through = λ p k there under has.
          let small : k < 64 = omega (arith, under, few) in
          let in_it : p < (directed_shape c.above-above.result.links.now).procedures = omega (arith, there, counts) in
          let old = subst (λ (l : List ℕ). has_bit (slice_index l p) k ≡ true) c.as_slice-4.ensures.value has in
          subst (λ (l : LinkedProgram). Preserved (directed_shape l) (column_transfer selection (slice_index columns k)).kill ((directed_shape l).exit p))
          linked (found.through p in_it (column_transfer selection (slice_index columns k)) k small (c.above-above.ensures.exact k under) old);
      hung_count = ap length c.as_slice-5.ensures.value ∙ (found.hung_count ∙ counts);
      hung = λ p k under has.
          let small : k < 64 = omega (arith, under, few) in
          let old = subst (λ (l : List ℕ). has_bit (slice_index l p) k ≡ true) c.as_slice-5.ensures.value has in
          subst (λ (l : LinkedProgram). Entered (directed_shape l) p × Brought (directed_shape l) (column_transfer selection (slice_index columns k)) p)
          linked (found.hung p (column_transfer selection (slice_index columns k)) k small (c.above-above.ensures.exact k under) old);
    }
