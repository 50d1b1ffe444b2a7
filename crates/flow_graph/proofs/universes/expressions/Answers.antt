use Rattle.std.proofs.Common.{◌≡◌, ◌+◌, ◌∷◌, [], ℕ, List, Option, fold, flat_map, length, get_or, rules, ap, ◌∙◌, sym, subst, arith, length-append}
use Rattle.std.specs.List.{range_with_len}
use Rattle.std.proofs.lemmas.Grind.{fold-append}
use Rattle.flow_graph.specs.code.Evaluated.{IsNumberOf}
use Rattle.flow_graph.specs.Points.{point_count}
use Rattle.flow_graph.specs.Universes.{Expr, noted, some_expression, expression_at, expressions}
use Rattle.flow_graph.proofs.bits.Noted.{numbers-stay, one_more_noted, number_is}
use Rattle.flow_graph.proofs.lists.Ranges.{flat_map-range_more, pushed_each}
use Rattle.flow_graph.proofs.universes.expressions.Goals as goal

pub loop-point-preserved : goal.loop-point-preserved
loop-point-preserved c =
    let program = c.args.points.now in
    let n : ℕ = c.loop-point.point in
    let old : List Expr = c.loop-point.expressions.keys in
    let added : Option Expr = c.expression_of_point.result in
    let found : Option Expr = expression_at program n in
    let is_found : added ≡ found = c.expression_of_point.ensures in
    let keys : c.note_expression.new.expressions.keys ≡ fold noted old (some_expression added) = c.in_ok-note_expression.ensures.noted in
    let invariant = c.loop-point.invariant in
    let all : List ℕ → List Expr = λ ns. flat_map (λ point. some_expression (expression_at program point)) ns in
    record {
      noted =
          keys
          ∙ ap (λ ks. fold noted ks (some_expression added)) invariant.noted
          ∙ ap (λ e. fold noted (fold noted [] (all (range_with_len 0 n))) (some_expression e)) is_found
          ∙ sym (fold-append noted [] (all (range_with_len 0 n)) (some_expression found))
          ∙ sym (ap (fold noted []) (flat_map-range_more (λ point. some_expression (expression_at program point)) n));
      few = omega (arith, invariant.few, ap length keys, one_more_noted old added);
      so_many = ap length c.in_ok-push.ensures.items ∙ length-append c.loop-point.evaluated.items (c.in_ok-note_expression.field-0 ∷ [])
          ∙ ap (λ m. m + 1) invariant.so_many;
      each = λ k d below.
          subst
          (λ (items : List (Option ℕ)). IsNumberOf c.note_expression.new.expressions.keys (expression_at program k) (get_or items k d))
          (sym c.in_ok-push.ensures.items)
          (pushed_each (λ k number. IsNumberOf c.note_expression.new.expressions.keys (expression_at program k) number)
          c.loop-point.evaluated.items c.in_ok-note_expression.field-0 n invariant.so_many
          (λ k d before.
          subst (λ (ks : List Expr). IsNumberOf ks (expression_at program k) (get_or c.loop-point.evaluated.items k d)) (sym keys)
          (numbers-stay old added (expression_at program k) _ (invariant.each k d before)))
          (subst (λ (e : Option Expr). IsNumberOf c.note_expression.new.expressions.keys e c.in_ok-note_expression.field-0) is_found
          c.in_ok-note_expression.ensures.number)
          k d below);
    }

pub returns-clause-evaluated : goal.returns-clause-evaluated
returns-clause-evaluated c =
    let program = c.args.points.now in
    let invariant = c.loop-point.invariant in
    let all : c.loop-point.point ≡ point_count program = search rules in
    let keys : c.loop-point.expressions.keys ≡ expressions program =
    invariant.noted ∙ ap (λ n. fold noted [] (flat_map (λ point. some_expression (expression_at program point)) (range_with_len 0 n))) all in
    record {
      count = invariant.so_many ∙ all;
      each = λ point d below.
          number_is (expressions program) (expression_at program point) (get_or c.loop-point.evaluated.items point d)
          (subst (λ (ks : List Expr). IsNumberOf ks (expression_at program point) (get_or c.loop-point.evaluated.items point d)) keys
          (invariant.each point d (omega (arith, all))));
    }
