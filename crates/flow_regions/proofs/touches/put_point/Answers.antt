use Rattle.std.proofs.Common.{◌<◌, false, length, option_map, unwrap_or, inl, inr, sym, ap, subst, ◌∙◌}
use Rattle.std.proofs.lemmas.Bool.{or_cases}
use Rattle.std.specs.Prelude.{IfSome}
use Rattle.flow_graph.specs.Points.{point_count}
use Rattle.gen_kill.specs.code.Effects.{column_depends, effect_owns, marks}
use Rattle.flow_regions.specs.code.Lists.{ArePairs, IsPair}
use Rattle.flow_regions.proofs.listed.Pairs.{keeps_trans, on_ok_three, touched_more}
use Rattle.flow_regions.proofs.touches.put_point.Goals as goal

pub returns-in-None : goal.returns-in-None
returns-in-None c =
    let first = c.in_ok-put_if.ensures in
    let second = c.in_ok-put_if-2.ensures in
    let many = c.bits-count.ensures.count in
    let effect = c.touched-effect.result in
    touched_more c.args.problem.now c.args.marked.now c.args.point _ _ _ _ c.requires.before
    (subst (λ n. ArePairs n (point_count c.args.problem.now.program) c.put_if-2.new.pairs.keys.items c.put_if-2.new.pairs.values.items) many
    (second.pairs _ (first.pairs _ (subst (λ n. ArePairs n (point_count c.args.problem.now.program) c.args.pairs.now.keys.items c.args.pairs.now.values.items)
    (sym many) c.requires.before.pairs) c.requires.point) c.requires.point))
    (keeps_trans _ _ _ _ _ _ first.kept second.kept)
    (λ column low marked affected.
    let short = subst (λ n. column < n) (sym many) low in
    elim (or_cases (effect_owns effect column) (unwrap_or (option_map (λ x. column_depends c.args.problem.now x column) effect.written) false)
    (c.touched-effect.ensures.affected column low affected)) [
      | inl own ↦ elim (or_cases (marks effect.first column) (marks effect.second column) own) [
        | inl is ↦ second.kept _ _ (first.here column short is)
        | inr is ↦ second.here column short is
      ]
      | inr touched ↦
          let none = ap (λ o. unwrap_or (option_map (λ x. column_depends c.args.problem.now x column) o) false) c.in-None.is in
          absurd (cc (sym none ∙ touched))
    ])

pub returns-in-Some : goal.returns-in-Some
returns-in-Some c =
    let first = c.in_ok-put_if.ensures in
    let second = c.in_ok-put_if-2.ensures in
    let many = c.bits-count.ensures.count in
    let effect = c.touched-effect.result in
    let variable = c.in-Some.variable in
    let there = subst (λ o. IfSome o (λ x. x < length c.args.problem.now.program.variable_names)) c.in-Some.is c.touched-effect.ensures.written in
    on_ok_three _ _ _ _ c.put_columns.result
    (λ pairs here kept. touched_more c.args.problem.now c.args.marked.now c.args.point _ _ _ _ c.requires.before
    (subst (λ n. ArePairs n (point_count c.args.problem.now.program) c.put_columns.new.pairs.keys.items c.put_columns.new.pairs.values.items) many
    (pairs _ (second.pairs _ (first.pairs _
    (subst (λ n. ArePairs n (point_count c.args.problem.now.program) c.args.pairs.now.keys.items c.args.pairs.now.values.items)
    (sym many) c.requires.before.pairs) c.requires.point) c.requires.point) c.requires.point))
    (keeps_trans _ _ _ _ _ _ first.kept (keeps_trans _ _ _ _ _ _ second.kept kept))
    (λ column low marked affected.
    let short = subst (λ n. column < n) (sym many) low in
    elim (or_cases (effect_owns effect column) (unwrap_or (option_map (λ x. column_depends c.args.problem.now x column) effect.written) false)
    (c.touched-effect.ensures.affected column low affected)) [
      | inl own ↦ elim (or_cases (marks effect.first column) (marks effect.second column) own) [
        | inl is ↦ kept _ _ (second.kept _ _ (first.here column short is))
        | inr is ↦ kept _ _ (second.here column short is)
      ]
      | inr touched ↦
          let some = ap (λ o. unwrap_or (option_map (λ x. column_depends c.args.problem.now x column) o) false) c.in-Some.is in
          let (j, within, read) = c.of.ensures.has column (c.requires.dependents.each variable column there low marked (sym some ∙ touched)) in
          subst (λ k. IsPair c.put_columns.new.pairs.keys.items c.put_columns.new.pairs.values.items (length c.put_columns.new.pairs.keys.items)
          k c.args.point) read
          (here j within (subst (λ k. k < c.bits-count.result) (sym read) short))
    ])) c.put_columns.ensures.pairs c.put_columns.ensures.here c.put_columns.ensures.kept
