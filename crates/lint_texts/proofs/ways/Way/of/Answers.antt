use Rattle.std.proofs.Common.{ℕ, Bool, List, ◌∙◌, ap, length, take, sym, arith}
use Rattle.std.proofs.lemmas.List.{get_or_default}
use Rattle.flow_why.specs.declared.hop.Hop.{Hop}
use Rattle.lint_texts.specs.LintTexts.{is_turn}
use Rattle.lint_texts.proofs.Turned.{passed_over, turn_counted, turn_put}
use Rattle.lint_texts.proofs.ways.Way.of.Goals as goal
use Rattle.lint_texts.proofs.ways.Way.of.Goals.{then-is_turn+in_ok-put_turn, else-is_turn}

pub loop-hop-preserved : goal.loop-hop-preserved
loop-hop-preserved c =
    let p : Hop → Bool = is_turn c.args.graph.now in
    let hops : List Hop = c.args.hops.now in
    let i : ℕ = c.loop-hop.hop-index in
    elim c.if-is_turn.branch [
      | then-is_turn+in_ok-put_turn w ↦ (
        ap (λ v. v.items) w.turns-is
            ∙ turn_put p hops i _ c.loop-hop-test.true (get_or_default hops i _ _ c.loop-hop-test.true) c.loop-hop.turns.items _ c.loop-hop.invariant.0
            (sym c.is_turn.ensures ∙ w.if-is_turn.true) w.in_ok-put_turn.ensures,
        turn_counted p hops i _ c.loop-hop-test.true (get_or_default hops i _ _ c.loop-hop-test.true) c.loop-hop.count _ c.loop-hop.invariant.1
            (sym c.is_turn.ensures ∙ w.if-is_turn.true) w.count-is,
        omega (arith, c.loop-hop.invariant.2, w.count-is),
      )
      | else-is_turn w ↦ (
        ap (λ v. v.items) w.turns-is ∙ c.loop-hop.invariant.0
            ∙ ap (take 20) (passed_over p hops i _ c.loop-hop-test.true (get_or_default hops i _ _ c.loop-hop-test.true) (sym c.is_turn.ensures ∙ w.if-is_turn.false)),
        w.count-is ∙ c.loop-hop.invariant.1
            ∙ ap length (passed_over p hops i _ c.loop-hop-test.true (get_or_default hops i _ _ c.loop-hop-test.true) (sym c.is_turn.ensures ∙ w.if-is_turn.false)),
        omega (arith, c.loop-hop.invariant.2, w.count-is),
      )
    ]
