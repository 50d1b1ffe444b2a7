use Rattle.std.proofs.Common.{◌≡◌, ◌+◌, length, ◌∙◌, ap, arith}
use Rattle.std.proofs.lemmas.List.{length-append}
use Rattle.lint_texts.specs.code.Uses.{IsWayOf}
use Rattle.lint_texts.proofs.Turned.{each_way}
use Rattle.tac_program.specs.Programs.{Program}
use Rattle.lint_texts.proofs.ways.all_ways.Goals as goal

pub loop-variable-preserved : goal.loop-variable-preserved
loop-variable-preserved c = (
  ap length c.in_ok-push.ensures.items ∙ length-append c.loop-variable.all.items _ ∙ ap (λ n. n + 1) c.loop-variable.invariant.0,
  each_way (IsWayOf c.args.graph.now c.args.uses.now) c.loop-variable.all.items c.push.new.self.items _ c.loop-variable.variable c.loop-variable.invariant.0
      c.in_ok-push.ensures.items c.loop-variable.invariant.1 c.in_ok-way_of.ensures,
)

pub returns-clause-count : goal.returns-clause-count
returns-clause-count c =
    let end : c.variables-variable-end.result ≡ length c.args.graph.now.variable_names =
    c.variables-variable-end.ensures ∙ ap (λ (p : Program). length p.variable_names) c.program.ensures in
    omega (arith, c.loop-variable.invariant.0, c.loop-variable-test.false, c.loop-variable.auto.variable-end, end)

pub returns-clause-ways : goal.returns-clause-ways
returns-clause-ways c = λ v below.
    let end : c.variables-variable-end.result ≡ length c.args.graph.now.variable_names =
    c.variables-variable-end.ensures ∙ ap (λ (p : Program). length p.variable_names) c.program.ensures in
    c.loop-variable.invariant.1 v (omega (arith, below, c.loop-variable-test.false, end))
