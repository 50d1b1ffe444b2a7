use Rattle.std.proofs.Common.{rules, ◌≡◌, ◌+◌, ◌∷◌, [], ℕ, ◌<◌, ◌≤◌, List, Option, flat_map, length, get_or, ap, ◌∙◌, sym, subst, arith}
use Rattle.std.proofs.Common.{length-append}
use Rattle.std.specs.List.{range_with_len}
use Rattle.gen_kill.specs.Selections.{Selection}
use Rattle.gen_kill.specs.code.Effects.{IsColumnEffect, IsEffect}
use Rattle.gen_kill.specs.code.Problems.{selected}
use Rattle.flow_graph.specs.code.Walks.{WalkAt}
use Rattle.flow_graph.specs.Points.{point_count}
use Rattle.flow_graph.specs.Universes.{definition_at}
use Rattle.flow_graph.specs.declared.analysis.Analysis.TheVariants.{Live}
use Rattle.gen_kill.specs.declared.effect.Effect.{Effect}
use Rattle.gen_kill.proofs.bits.EffectSteps.{column_effect, effect_of_numbered, definitions_more}
use Rattle.flow_graph.proofs.bits.Added.{added}
use Rattle.flow_graph.proofs.lists.Ranges.{pushed_each}
use Rattle.gen_kill.proofs.effects.effects.Goals as goal
use Rattle.gen_kill.proofs.effects.effects.Goals.{in-Some, in-None}
use Rattle.tac_program.specs.Limits.{most_variables}
use Rattle.tac_program.specs.declared.limits.Limits.TheVariants.{Large}

pub overflow_add-number : goal.overflow_add-number
overflow_add-number c =
    let few : length c.args.graph.now.variable_names ≤ most_variables Large = c.bits-number.ensures.few Live in
    let below : c.loop-point.number + 1 < 4294967296 = omega (arith, few, c.loop-point.invariant.few, c.points-point-end.ensures) in
    search rules

pub loop-point-preserved : goal.loop-point-preserved
loop-point-preserved c =
    let program = c.args.graph.now in
    let n : ℕ = c.loop-point.point in
    let effect : Effect = c.effect-effect.result in
    let s : Selection = selected program c.args.analysis c.args.columns.now in
    let invariant = c.loop-point.invariant in
    let below : n < point_count program = omega (arith, c.points-point-end.ensures.count, c.loop-point-test.true) in
    let is_effect : IsEffect program c.args.analysis n effect =
    effect_of_numbered program c.args.analysis c.loop-point.number n effect below invariant.numbered c.effect-effect.ensures in
    let step : (number : ℕ) → (number ≡ c.loop-point.number + length (definition_at program n))
    → (number ≡ length program.variable_names + length (flat_map (definition_at program) (range_with_len 0 (n + 1)))) =
    λ number is. omega (arith, is, invariant.numbered, definitions_more program n) in
    let number_is : (c.match-effect.number ≡ c.loop-point.number + length (definition_at program n))
    × (c.match-effect.number ≤ c.loop-point.number + 1) = elim c.match-effect.branch [
      | in-Some w ↦
          let here : length (definition_at program n) ≡ 1 = ap (λ (t : Option ℕ). length (added n t)) (sym is_effect.written ∙ w.in-Some.is) in
          (omega (arith, w.number-is, here), omega (arith, w.number-is))
      | in-None w ↦
          let here : length (definition_at program n) ≡ 0 = ap (λ (t : Option ℕ). length (added n t)) (sym is_effect.written ∙ w.in-None.is) in
          (omega (arith, w.number-is, here), omega (arith, w.number-is))
    ] in
    record {
      walks =
          c.step-next.ensures.next ∙ ap (λ (w : WalkAt). let v : WalkAt = record { program = w.program; point = w.point + 1 } in v) invariant.walks;
      numbered = step c.match-effect.number number_is.0;
      few = omega (arith, invariant.few, number_is.1);
      so_many = ap length c.in_ok-push.ensures.items ∙ length-append c.loop-point.effects.items (c.of.result ∷ []) ∙ ap (λ m. m + 1) invariant.so_many;
      each = λ k d before.
          subst
          (λ (items : List Effect). IsColumnEffect s k (get_or items k d))
          (sym c.in_ok-push.ensures.items)
          (pushed_each (λ k e. IsColumnEffect s k e)
          c.loop-point.effects.items c.of.result n invariant.so_many invariant.each
          (subst (λ (e : Effect). IsColumnEffect s n e) (sym c.of.ensures)
          (column_effect s n effect c.effect.result is_effect c.effect.ensures.written c.effect.ensures.own)) k d before);
    }
